-- Members of a part of a list and of a list with one more, and what every member of a list passes.
use Rattle.std.proofs.Common.{◌≡◌, ℕ, zero, suc, ◌-◌, ◌<◌, Bool, true, ◌⊎◌, List, [], ◌∷◌, ◌++◌, length, get_or, take, drop, sym, refl, ap, ◌∙◌, subst, inl, inr, arith}
use Rattle.std.specs.List.{between, list_all, All, Contains}
use Rattle.std.proofs.lemmas.Bool.{and_from}
use Rattle.change.specs.Membership.{In, Within}
use Rattle.change.proofs.Every.{every_at}
use Rattle.order.proofs.Members.{in_get_or, in_at}

module _ {X : Type 0} where
  pub in_push : (x y : X) (xs : List X) → In x (xs ++ y ∷ []) → In x xs ⊎ (x ≡ y)
  in_push x y [] (inl e) = inr e
  in_push x y [] (inr i) = elim i [ ]
  in_push x y (z ∷ xs) (inl e) = inl (inl e)
  in_push x y (z ∷ xs) (inr i) = elim (in_push x y xs i) [ inl j ↦ inl (inr j) | inr e ↦ inr e ]

  pub in_between : (x : X) (s e : ℕ) (xs : List X) → In x (between s e xs) → In x xs
  in_between x s e xs i = dropped s xs (taken (e - s) (drop s xs) i)
    where
      taken : (n : ℕ) (ys : List X) → In x (take n ys) → In x ys
      taken zero ys i = elim i [ ]
      taken (suc n) [] i = i
      taken (suc n) (y ∷ ys) (inl e) = inl e
      taken (suc n) (y ∷ ys) (inr i) = inr (taken n ys i)

      dropped : (n : ℕ) (ys : List X) → In x (drop n ys) → In x ys
      dropped zero ys i = i
      dropped (suc n) [] i = i
      dropped (suc n) (y ∷ ys) i = inr (dropped n ys i)

  module _ (test : X → Bool) where
    pub every_from_at : (xs : List X) (d : X) → ((k : ℕ) → k < length xs → test (get_or xs k d) ≡ true) → list_all test xs ≡ true
    every_from_at [] d h = refl
    every_from_at (x ∷ xs) d h = and_from (test x) (list_all test xs) (h zero (omega arith)) (every_from_at xs d (λ k less. h (suc k) (omega arith)))

    pub every_in : (d x : X) (xs : List X) → list_all test xs ≡ true → In x xs → test x ≡ true
    every_in d x xs all i = let (k, h, e) = in_at d x xs i in ap test (sym e) ∙ every_at test xs k d all h

    pub every_within : (d : X) (xs ys : List X) → list_all test ys ≡ true → Within xs ys → list_all test xs ≡ true
    every_within d xs ys all within = every_from_at xs d (λ k h. every_in d (get_or xs k d) ys all (within (get_or xs k d) (in_get_or xs k d h)))

-- a list each of whose elements is one of those
pub within_from_all : {X : Type 0} (xs ys : List X) → All (Contains ys) xs → Within xs ys
within_from_all xs ys all x i =
    let (k, h, e) = in_at x x xs i in
    let (j, g, f) = subst (Contains ys) e (all k x h) in
    subst (λ y. In y ys) f (in_get_or ys j x g)
