-- Members of what a list keeps by a test, of two lists joined, of a list that is mapped, and at a place.
-- Assumes nothing.
use Rattle.std.proofs.Common.{◌≡◌, ℕ, zero, suc, ◌<◌, Bool, true, false, cond, ◌⊎◌, List, [], ◌∷◌, ◌++◌, map, length, get_or, filter, sym, refl, ap, ◌∙◌, inl, inr, arith}
use Rattle.std.proofs.lemmas.Bool.{both_ways}
use Rattle.change.specs.Membership.{In}

pub kept_from : {X : Type 0} (test : X → Bool) (xs : List X) (y : X) → In y (filter test xs) → In y xs × (test y ≡ true)
kept_from test [] y i = absurd i
kept_from {X} test (x ∷ xs) y i = go (test x) refl (kept_from test xs y) i
  where
    go : (b : Bool) → test x ≡ b → (In y (filter test xs) → In y xs × (test y ≡ true)) →
        In y (cond b (x ∷ filter test xs) (filter test xs)) → In y (x ∷ xs) × (test y ≡ true)
    go true e rest (inl f) = (inl f, ap test f ∙ e)
    go true e rest (inr j) = (inr (rest j).0, (rest j).1)
    go false e rest j = (inr (rest j).0, (rest j).1)

pub kept_has : {X : Type 0} (test : X → Bool) (xs : List X) (y : X) → In y xs → test y ≡ true → In y (filter test xs)
kept_has test [] y i e = i
kept_has {X} test (x ∷ xs) y i e = go (test x) refl i (kept_has test xs y)
  where
    go : (b : Bool) → test x ≡ b → In y (x ∷ xs) → (In y xs → test y ≡ true → In y (filter test xs)) → In y (cond b (x ∷ filter test xs) (filter test xs))
    go true f (inl g) rest = inl g
    go true f (inr j) rest = inr (rest j e)
    go false f (inl g) rest = absurd (both_ways (test y) (ap test g ∙ f) e)
    go false f (inr j) rest = rest j e

pub in_left : {X : Type 0} (xs ys : List X) (z : X) → In z xs → In z (xs ++ ys)
in_left [] ys z i = absurd i
in_left (x ∷ xs) ys z (inl e) = inl e
in_left (x ∷ xs) ys z (inr i) = inr (in_left xs ys z i)

pub in_right : {X : Type 0} (xs ys : List X) (z : X) → In z ys → In z (xs ++ ys)
in_right [] ys z i = i
in_right (x ∷ xs) ys z i = inr (in_right xs ys z i)

pub in_either : {X : Type 0} (xs ys : List X) (z : X) → In z (xs ++ ys) → In z xs ⊎ In z ys
in_either [] ys z i = inr i
in_either (x ∷ xs) ys z (inl e) = inl (inl e)
in_either (x ∷ xs) ys z (inr i) = elim (in_either xs ys z i) [ inl j ↦ inl (inr j) | inr j ↦ inr j ]

pub in_mapped : {X Y : Type 0} (f : X → Y) (y : Y) (xs : List X) → In y (map f xs) → (x : X) × In x xs × (y ≡ f x)
in_mapped f y [] i = absurd i
in_mapped f y (x ∷ xs) (inl e) = (x, inl refl, e)
in_mapped f y (x ∷ xs) (inr i) = let (z, j, e) = in_mapped f y xs i in (z, inr j, e)

pub mapped_in : {X Y : Type 0} (f : X → Y) (x : X) (xs : List X) → In x xs → In (f x) (map f xs)
mapped_in f x [] i = absurd i
mapped_in f x (y ∷ xs) (inl e) = inl (ap f e)
mapped_in f x (y ∷ xs) (inr i) = inr (mapped_in f x xs i)

pub in_get_or : {X : Type 0} (xs : List X) (k : ℕ) (d : X) → k < length xs → In (get_or xs k d) xs
in_get_or [] k d less = absurd (omega arith)
in_get_or (x ∷ xs) zero d less = inl refl
in_get_or (x ∷ xs) (suc k) d less = inr (in_get_or xs k d (omega arith))

pub in_at : {X : Type 0} (d x : X) (xs : List X) → In x xs → (k : ℕ) × (k < length xs) × (get_or xs k d ≡ x)
in_at d x [] i = absurd i
in_at d x (y ∷ xs) (inl e) = (zero, omega arith, sym e)
in_at d x (y ∷ xs) (inr i) = let (k, less, e) = in_at d x xs i in (suc k, omega arith, e)
