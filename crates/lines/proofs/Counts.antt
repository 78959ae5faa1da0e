-- Counting free slots: those from one slot on, and where all are free.
-- Assumes nothing.
use Rattle.std.proofs.Common.{◌≡◌, ℕ, suc, ◌+◌, ◌-◌, ◌<◌, Bool, true, false, not, cond, eqb, List, [], ◌∷◌, length, get_or, take, drop, Some, refl, sym, ap, ◌∙◌, true-eqb, inl, inr, arith}
use Rattle.std.specs.Prelude.{count_by}
use Rattle.std.specs.List.{position, position_or_len}
use Rattle.std.proofs.lemmas.List.{drop_all, drop-drop, take_all, length-drop, get_or-drop}
use Rattle.std.proofs.lemmas.List.Quantifiers.{position-Some}
use Rattle.std.proofs.lemmas.List.Sums.{sum_by-cons, sum_by-drop_more}
use Rattle.std.proofs.lemmas.Bool.{cond-true, lt-ltb, cases_Bool, cases_eq, cases_lt}
use Rattle.std.proofs.lemmas.Bool.Decides.{nat_tests}
use Rattle.lines.specs.Numbers.{no_line, free_in}

pub free_slot_within : (ns : List ℕ) (i : ℕ) → 0 < free_in (drop i ns) → i < length ns
free_slot_within ns i h = elim (cases_lt i (length ns)) [ inl lt ↦ lt | inr le ↦ absurd (let e = drop_all i ns le in let k = rw e at h in omega arith) ]

count_from : (ns : List ℕ) (i : ℕ) → i < length ns → free_in (drop i ns) ≡ cond (eqb (get_or ns i 0) no_line) 1 0 + free_in (drop (i + 1) ns)
count_from ns i h = sum_by-drop_more (λ n. cond (eqb n no_line) 1 0) ns i 0 h

pub count_from_used : (ns : List ℕ) (i : ℕ) → i < length ns → (get_or ns i 0 ≡ no_line → ⊥) → free_in (drop i ns) ≡ free_in (drop (i + 1) ns)
count_from_used ns i h ne = grind (arith, nat_tests, count_from ns i h)

pub all_free_count : (ns : List ℕ) → ((i : ℕ) → i < length ns → (get_or ns i 0 ≡ no_line → ⊥) → ⊥) → free_in ns ≡ length ns
all_free_count [] all = refl
all_free_count (n ∷ ns) all =
    let rest = all_free_count ns (λ i h. all (suc i) (omega arith)) in
    elim (cases_eq n no_line) [
      | inl e ↦ grind (arith, nat_tests, sum_by-cons (λ m. cond (eqb m no_line) 1 0) n ns)
      | inr ne ↦ absurd (all 0 (omega arith) ne)
    ]

-- The first of those that pass is there where one passes, and the count goes on behind it.
module _ {X : Type 0} (p : X → Bool) where
  counted : (x : X) (xs : List X) (b : Bool) → p x ≡ b → count_by p (x ∷ xs) ≡ cond b 1 0 + count_by p xs
  counted x xs b e = sum_by-cons (λ y. cond (p y) 1 0) x xs ∙ ap (λ a. cond a 1 0 + count_by p xs) e

  pub first_within : (xs : List X) → 0 < count_by p xs → position_or_len p xs < length xs
  first_within [] h = absurd (omega arith)
  first_within (x ∷ xs) h =
      elim (cases_Bool (p x)) [
        | inl holds ↦ rw holds (omega arith)
        | inr fails ↦ let here = counted x xs false fails in let more = first_within xs (omega arith) in rw fails (omega arith)
      ]

  pub count_from_first : (xs : List X) → 0 < count_by p xs → count_by p xs ≡ 1 + count_by p (drop (position_or_len p xs + 1) xs)
  count_from_first [] h = absurd (omega arith)
  count_from_first (x ∷ xs) h =
      elim (cases_Bool (p x)) [
        | inl holds ↦ counted x xs true holds ∙ ap (λ b. 1 + count_by p (drop (cond (not b) (1 + position_or_len p xs) 0 + 1) (x ∷ xs))) (sym holds)
        | inr fails ↦
            let here : count_by p (x ∷ xs) ≡ count_by p xs = omega (arith, counted x xs false fails) in
            let next : suc (position_or_len p xs + 1) ≡ 1 + position_or_len p xs + 1 = omega arith in
            here ∙ count_from_first xs (omega arith) ∙ ap (λ k. 1 + count_by p (drop k (x ∷ xs))) next ∙ ap (λ b. 1 + count_by p (drop (cond (not b) (1 + position_or_len p xs) 0 + 1) (x ∷ xs))) (sym fails)
      ]

-- The first free slot at or behind `from`, as it is looked for in the slots from there on.
module _ (ns : List ℕ) (from : ℕ) (some : 0 < free_in (drop from ns)) where
  abbrev pub ahead : ℕ
  ahead = position_or_len (λ n. eqb n no_line) (drop from ns)

  pub is_ahead : position (λ n. eqb n no_line) (take (length ns - from) (drop from ns)) ≡ Some ahead
  is_ahead =
      ap (position (λ n. eqb n no_line)) (take_all _ (drop from ns) (omega (arith, length-drop from ns)))
      ∙ cond-true _ _ _ (lt-ltb _ _ (first_within (λ n. eqb n no_line) (drop from ns) some))

  pub is_the_first : (k : ℕ) → Some k ≡ Some ahead → (get_or ns (from + k) 0 ≡ no_line) × (free_in (drop from ns) ≡ 1 + free_in (drop (from + k + 1) ns))
  is_the_first k e =
      let same : k ≡ ahead = cc in
      let within = first_within (λ n. eqb n no_line) (drop from ns) some in
      let yes = (position-Some (λ n. eqb n no_line) (drop from ns) ahead 0 (cond-true _ _ _ (lt-ltb _ _ within))).1 in
      let next : from + (k + 1) ≡ from + k + 1 = omega arith in (
        ap (λ j. get_or ns (from + j) 0) same ∙ sym (get_or-drop from ns ahead 0) ∙ true-eqb _ no_line (sym yes),
        count_from_first (λ n. eqb n no_line) (drop from ns) some
            ∙ ap (λ l. 1 + free_in l) (ap (λ j. drop (j + 1) (drop from ns)) (sym same) ∙ drop-drop (k + 1) from ns ∙ ap (λ j. drop j ns) next),
      )
