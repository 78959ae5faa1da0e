-- Rising numbers by their places, and what a search that halves them tells.
-- Assumes nothing.
use Rattle.std.proofs.Common.{◌≡◌, ℕ, zero, suc, ◌+◌, ◌<◌, ◌≤◌, Bool, true, false, ◌||◌, eqb, leb, List, [], ◌∷◌, length, get_or, sym, refl, ap, ◌∙◌, inl, inr, arith, eq-eqb, ne_eqb, leb-true}
use Rattle.std.proofs.lemmas.Bool.{cases_lt}
use Rattle.change.specs.WellFormed.{rising}
use Rattle.change.proofs.Tests.{and_true}
use Rattle.verdict.specs.FromNeeds.{is_among}

pub rising_within : (low high : ℕ) (ns : List ℕ) (i : ℕ) → rising low high ns ≡ true → i < length ns → (low ≤ get_or ns i 0) × (get_or ns i 0 ≤ high)
rising_within low high [] i up less = absurd (omega arith)
rising_within low high (n ∷ ns) zero up less = let p = and_true (leb low n) _ (and_true _ _ up).0 in (leb-true low n p.0, leb-true n high p.1)
rising_within low high (n ∷ ns) (suc i) up less =
    let p = and_true _ (rising (suc n) high ns) up in
    let here = leb-true low n (and_true (leb low n) _ p.0).0 in
    let later = rising_within (suc n) high ns i p.1 (omega arith) in
    (omega arith, later.1)

pub rising_order : (low high : ℕ) (ns : List ℕ) (i j : ℕ) → rising low high ns ≡ true → i < j → j < length ns → get_or ns i 0 < get_or ns j 0
rising_order low high [] i j up before less = absurd (omega arith)
rising_order low high (n ∷ ns) i zero up before less = absurd (omega arith)
rising_order low high (n ∷ ns) zero (suc j) up before less = (rising_within (suc n) high ns j (and_true _ (rising (suc n) high ns) up).1 (omega arith)).0
rising_order low high (n ∷ ns) (suc i) (suc j) up before less = rising_order (suc n) high ns i j (and_true _ (rising (suc n) high ns) up).1 (omega arith) (omega arith)

or_true : (b : Bool) → b || true ≡ true
or_true true = refl
or_true false = refl

pub among_at : (n : ℕ) (ns : List ℕ) (i : ℕ) → i < length ns → get_or ns i 0 ≡ n → is_among n ns ≡ true
among_at n [] i less same = absurd (omega arith)
among_at n (m ∷ ns) zero less same = ap (λ b. b || is_among n ns) (eq-eqb n m (sym same))
among_at n (m ∷ ns) (suc i) less same = ap (λ b. eqb n m || b) (among_at n ns i (omega arith) same) ∙ or_true (eqb n m)

pub not_among : (n : ℕ) (ns : List ℕ) → ((i : ℕ) → i < length ns → get_or ns i 0 ≡ n → ⊥) → is_among n ns ≡ false
not_among n [] none = refl
not_among n (m ∷ ns) none = ap (λ b. b || is_among n ns) (ne_eqb n m (λ e. none 0 (omega arith) (sym e))) ∙ not_among n ns (λ i less. none (suc i) (omega arith))

-- What one look tells of rising numbers: all up to one that is lower are lower, and all from one that is higher on are higher.
module _ (low high : ℕ) (ns : List ℕ) (up : rising low high ns ≡ true) (n i : ℕ) (less : i < length ns) where
  pub all_lower : get_or ns i 0 < n → (k : ℕ) → k < i + 1 → get_or ns k 0 < n
  all_lower here k before = elim (cases_lt k i) [ inl lower ↦ omega (arith, rising_order low high ns k i up lower less) | inr not_lower ↦ let same : k ≡ i = omega arith in rw same here ]

  pub all_higher : n < get_or ns i 0 → (k : ℕ) → i ≤ k → k < length ns → n < get_or ns k 0
  all_higher here k behind inside = elim (cases_lt i k) [ inl higher ↦ omega (arith, rising_order low high ns i k up higher inside) | inr not_higher ↦ let same : k ≡ i = omega arith in rw same here ]

-- The search has come to its end: all are lower or higher.
pub found_nowhere : (n : ℕ) (ns : List ℕ) (low high : ℕ) → high ≤ low → ((k : ℕ) → k < low → get_or ns k 0 < n) → ((k : ℕ) → high ≤ k → k < length ns → n < get_or ns k 0) → is_among n ns ≡ false
found_nowhere n ns low high met below above = not_among n ns (λ k inside same. elim (cases_lt k low) [ inl lower ↦ omega (arith, below k lower) | inr not_lower ↦ omega (arith, above k (omega arith) inside) ])
