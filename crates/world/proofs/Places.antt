-- The members of a list by their places, and what replacing one does.
-- Assumes nothing.
use Rattle.std.proofs.Common.{◌≡◌, ℕ, zero, suc, ◌⊎◌, List, [], ◌∷◌, set, Some, None, Option, sym, refl, ap, ◌∙◌, inl, inr, arith}
use Rattle.std.specs.List.{slice_get}
use Rattle.change.specs.Membership.{In}

module _ {X : Type 0} where
  pub none_is_not_some : (x : X) → ◌≡◌ {A = Option X} None (Some x) → ⊥
  none_is_not_some x e = let z : ◌≡◌ {A = ℕ} 0 1 = cc in omega arith

  pub same_some : (x y : X) → ◌≡◌ {A = Option X} (Some x) (Some y) → x ≡ y
  same_some x y e = cc

  pub nth_in : (xs : List X) (i : ℕ) (x : X) → slice_get xs i ≡ Some x → In x xs
  nth_in [] i x e = none_is_not_some x e
  nth_in (y ∷ xs) zero x e = inl (sym (same_some y x e))
  nth_in (y ∷ xs) (suc i) x e = inr (nth_in xs i x e)

  pub in_set : (xs : List X) (i : ℕ) (x y : X) → In y (set xs i x) → (y ≡ x) ⊎ In y xs
  in_set [] i x y h = inr h
  in_set (z ∷ xs) zero x y (inl e) = inl e
  in_set (z ∷ xs) zero x y (inr h) = inr (inr h)
  in_set (z ∷ xs) (suc i) x y (inl e) = inr (inl e)
  in_set (z ∷ xs) (suc i) x y (inr h) = elim (in_set xs i x y h) [ inl e ↦ inl e | inr k ↦ inr (inr k) ]

  pub nth_set_same : (xs : List X) (i : ℕ) (x y : X) → slice_get xs i ≡ Some y → slice_get (set xs i x) i ≡ Some x
  nth_set_same [] i x y e = e ∙ absurd (none_is_not_some y e)
  nth_set_same (z ∷ xs) zero x y e = refl
  nth_set_same (z ∷ xs) (suc i) x y e = nth_set_same xs i x y e

  pub nth_set_other : (xs : List X) (i j : ℕ) (x : X) → (i ≡ j → ⊥) → slice_get (set xs i x) j ≡ slice_get xs j
  nth_set_other [] i j x ne = refl
  nth_set_other (z ∷ xs) zero zero x ne = absurd (ne refl)
  nth_set_other (z ∷ xs) zero (suc j) x ne = refl
  nth_set_other (z ∷ xs) (suc i) zero x ne = refl
  nth_set_other (z ∷ xs) (suc i) (suc j) x ne = nth_set_other xs i j x (λ e. ne (ap suc e))

  -- to put what is there changes nothing
  pub set_same : (xs : List X) (i : ℕ) (x : X) → slice_get xs i ≡ Some x → set xs i x ≡ xs
  set_same [] i x e = refl
  set_same (y ∷ xs) zero x e = ap (λ z. z ∷ xs) (sym (same_some y x e))
  set_same (y ∷ xs) (suc i) x e = ap (λ zs. y ∷ zs) (set_same xs i x e)

  pub in_nth : (xs : List X) (x : X) → In x xs → (i : ℕ) × (slice_get xs i ≡ Some x)
  in_nth [] x h = absurd h
  in_nth (y ∷ xs) x (inl e) = (0, ap Some (sym e))
  in_nth (y ∷ xs) x (inr h) = let (i, e) = in_nth xs x h in (suc i, e)
