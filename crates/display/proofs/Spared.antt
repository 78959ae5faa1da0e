-- That a search through rising numbers, and a sort of them, tell which lines are spared.
-- Assumes nothing.
use Rattle.std.proofs.Common.{◌≡◌, ℕ, zero, suc, ◌<◌, ◌≤◌, Bool, true, false, not, eqb, List, [], ◌∷◌, length, get_or, is_err, Ok, Err, All, Result, sym, refl, inl, inr, arith, MatchResult}
use Rattle.std.specs.List.Sorted.{IsPermutation}
use Rattle.std.proofs.lemmas.List.Elements.{All-nil, All-cons, All-head, All-tail}
use Rattle.std.proofs.lemmas.List.Sorted.{All-permutation, IsPermutation-sym}
use Rattle.std.proofs.lemmas.Bool.{cases_lt, both_ways, and_parts, and_from, eq-eqb, ne_eqb, not_from_true, not_from_false}
use Rattle.std.specs.List.{list_all}
use Rattle.change.proofs.Every.{every_at}
use Rattle.display.specs.Added.{spared}

module _ {X : Type 0} (test : X → Bool) where
  every_from_at : (xs : List X) (d : X) → ((k : ℕ) → k < length xs → test (get_or xs k d) ≡ true) → list_all test xs ≡ true
  every_from_at [] d h = refl
  every_from_at (x ∷ xs) d h = and_from (test x) (list_all test xs) (h zero (omega arith)) (every_from_at xs d (λ k less. h (suc k) (omega arith)))

  all_from_every : (xs : List X) → list_all test xs ≡ true → All (λ x. test x ≡ true) xs
  all_from_every [] h = All-nil (λ x. test x ≡ true)
  all_from_every (x ∷ xs) h = let (e, rest) = and_parts (test x) (list_all test xs) h in All-cons (λ z. test z ≡ true) x xs e (all_from_every xs rest)

  every_from_all : (xs : List X) → All (λ x. test x ≡ true) xs → list_all test xs ≡ true
  every_from_all [] h = refl
  every_from_all (x ∷ xs) h = and_from (test x) (list_all test xs) (All-head (λ z. test z ≡ true) x xs h) (every_from_all xs (All-tail (λ z. test z ≡ true) x xs h))

  every_shuffled : (xs ys : List X) → IsPermutation xs ys → list_all test xs ≡ true → list_all test ys ≡ true
  every_shuffled xs ys same h = every_from_all ys (All-permutation (λ x. test x ≡ true) xs ys same (all_from_every xs h))

bools_alike : (a b : Bool) → (a ≡ true → b ≡ true) → (b ≡ true → a ≡ true) → a ≡ b
bools_alike true b to from = sym (to refl)
bools_alike false true to from = from refl
bools_alike false false to from = refl

-- The order of the struck out lines does not matter.
pub spared_shuffled : (ks js : List ℕ) → IsPermutation ks js → (u : ℕ) → spared js u ≡ spared ks u
spared_shuffled ks js same u =
    bools_alike (spared js u) (spared ks u) (every_shuffled _ js ks (IsPermutation-sym ks js same)) (every_shuffled _ ks js same)

-- what a search for u finds, or past which place it stops
pub spared_searched : (ks : List ℕ) (u : ℕ) (r : Result ℕ ℕ) →
    MatchResult r (λ i. (i < length ks) × (get_or ks i 0 ≡ u)) (λ i. (i ≤ length ks) × ((k : ℕ) → k < i → get_or ks k 0 < u) × ((k : ℕ) → i ≤ k → k < length ks → u < get_or ks k 0)) → is_err r ≡ spared ks u
spared_searched ks u (Ok i) (less, e) = go (spared ks u) refl
  where
    go : (b : Bool) → spared ks u ≡ b → false ≡ b
    go true h = absurd (both_ways (not (eqb (get_or ks i 0) u)) (not_from_true (eqb (get_or ks i 0) u) (eq-eqb (get_or ks i 0) u e)) (every_at (λ v. not (eqb v u)) ks i 0 h less))
    go false h = refl
spared_searched ks u (Err i) (within, low, high) = sym (every_from_at (λ v. not (eqb v u)) ks 0 (λ k less. not_from_false (eqb (get_or ks k 0) u) (ne_eqb (get_or ks k 0) u (apart k less))))
  where
    apart : (k : ℕ) → k < length ks → get_or ks k 0 ≡ u → ⊥
    apart k less e = elim (cases_lt k i) [ inl h ↦ omega (arith, low k h) | inr h ↦ omega (arith, high k h less) ]
