-- Giving slots to lines: one by one, from the first slot on and from the last, and what number each slot has then.
-- Assumes nothing.
use Rattle.std.proofs.Common.{◌≡◌, ℕ, zero, suc, ◌+◌, ◌<◌, ◌≤◌, ◌⊎◌, List, [], ◌∷◌, ◌++◌, length, get_or, drop, set, sym, refl, ap, ◌∙◌, inl, inr, arith}
use Rattle.std.proofs.lemmas.List.{at_drop_more, at_drop_all, get_or-set_same, get_or-set_other, length-set}
use Rattle.std.proofs.lemmas.Bool.{cases_eq}
use Rattle.lines.specs.Numbers.{no_line, AreFree, marked}

-- the first of the slots that are left
pub marked_next : (ns slots : List ℕ) (n k : ℕ) → k < length slots →
    marked (set ns (get_or slots k 0) (n + k)) (n + (k + 1)) (drop (k + 1) slots) ≡ marked ns (n + k) (drop k slots)
marked_next ns slots n k h =
    let e : n + (k + 1) ≡ suc (n + k) = omega arith in
    rw e (sym (at_drop_more (marked ns (n + k)) slots k 0 h))

pub marked_none : (ns slots : List ℕ) (n k : ℕ) → length slots ≤ k → marked ns n (drop k slots) ≡ ns
marked_none ns slots n k h = at_drop_all (marked ns n) slots k h

pub marked_push : (ns slots : List ℕ) (n x : ℕ) → marked ns n (slots ++ x ∷ []) ≡ set (marked ns n slots) x (n + length slots)
marked_push ns [] n x = let e : n ≡ n + 0 = omega arith in ap (set ns x) e
marked_push ns (s ∷ slots) n x =
    let e : suc n + length slots ≡ n + suc (length slots) = omega arith in
    marked_push (set ns s n) slots (suc n) x ∙ ap (set (marked (set ns s n) (suc n) slots) x) e

pub length_marked : (ns slots : List ℕ) (n : ℕ) → length (marked ns n slots) ≡ length ns
length_marked ns [] n = refl
length_marked ns (s ∷ slots) n = length_marked (set ns s n) slots (suc n) ∙ length-set ns s n

-- i is one of the slots, or none of them
abbrev pub Among : List ℕ → ℕ → Type 0
Among slots i = (k : ℕ) × (k < length slots) × (get_or slots k 0 ≡ i)

pub among_or_not : (slots : List ℕ) (i : ℕ) → Among slots i ⊎ (Among slots i → ⊥)
among_or_not [] i = inr (λ (k, h, e). omega arith)
among_or_not (s ∷ slots) i =
    elim (cases_eq s i) [
      | inl e ↦ inl (0, omega arith, e)
      | inr ne ↦ elim (among_or_not slots i) [
        | inl (k, h, e) ↦ inl (suc k, omega arith, e)
        | inr none ↦ inr (later none ne)
      ]
    ]
  where
    later : (Among slots i → ⊥) → (s ≡ i → ⊥) → Among (s ∷ slots) i → ⊥
    later none ne (zero, h, e) = ne e
    later none ne (suc k, h, e) = none (k, omega arith, e)

pub number_elsewhere : (ns slots : List ℕ) (n i : ℕ) → (Among slots i → ⊥) → get_or (marked ns n slots) i 0 ≡ get_or ns i 0
number_elsewhere ns [] n i none = refl
number_elsewhere ns (s ∷ slots) n i none =
    number_elsewhere (set ns s n) slots (suc n) i (λ (k, h, e). none (suc k, omega arith, e))
    ∙ get_or-set_other ns s i n 0 (λ e. none (0, omega arith, sym e))

pub number_of_marked : (ns slots : List ℕ) (n k : ℕ) → k < length slots →
    ((j : ℕ) → j < length slots → get_or slots j 0 < length ns) →
    ((i j : ℕ) → i < length slots → j < length slots → get_or slots i 0 ≡ get_or slots j 0 → i ≡ j) →
    get_or (marked ns n slots) (get_or slots k 0) 0 ≡ n + k
number_of_marked ns [] n k h within once = absurd (omega arith)
number_of_marked ns (s ∷ slots) n zero h within once =
    number_elsewhere (set ns s n) slots (suc n) s (λ (k, l, e). omega (arith, once (suc k) 0 (omega arith) (omega arith) e))
    ∙ get_or-set_same ns s n 0 (within 0 (omega arith)) ∙ omega arith
number_of_marked ns (s ∷ slots) n (suc k) h within once =
    number_of_marked (set ns s n) slots (suc n) k (omega arith) (λ j l. rw length-set (within (suc j) (omega arith)))
    (λ i j l m e. omega (arith, once (suc i) (suc j) (omega arith) (omega arith) e))
    ∙ omega arith

-- a slot in use is none of those marked
pub used_stays : (ns slots : List ℕ) (first : ℕ) → AreFree ns slots → (i n : ℕ) → get_or ns i 0 ≡ n → (n ≡ no_line → ⊥) → get_or (marked ns first slots) i 0 ≡ n
used_stays ns slots first are_free i n e used =
    number_elsewhere ns slots first i (λ (k, h, f). used (sym e ∙ ap (λ j. get_or ns j 0) (sym f) ∙ (are_free k h).1)) ∙ e
