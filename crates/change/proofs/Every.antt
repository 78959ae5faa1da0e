-- Every element of a list passes a test: one more at its end, the one at a place, and those that a function gives.
-- Assumes nothing.
use Rattle.std.proofs.Common.{◌≡◌, ℕ, zero, suc, ◌<◌, Bool, true, ◌&&◌, List, [], ◌∷◌, ◌++◌, map, length, get_or, refl, ap, ◌∙◌, arith}
use Rattle.std.specs.List.{list_all}
use Rattle.change.proofs.Tests.{and_true}

pub every_push : {X : Type 0} (test : X → Bool) (xs : List X) (x : X) → list_all test xs ≡ true → test x ≡ true → list_all test (xs ++ x ∷ []) ≡ true
every_push test [] x h e = ap (λ b. b && true) e
every_push test (y ∷ xs) x h e = let p = and_true (test y) (list_all test xs) h in ap (λ b. b && list_all test (xs ++ x ∷ [])) p.0 ∙ every_push test xs x p.1 e

pub every_at : {X : Type 0} (test : X → Bool) (xs : List X) (i : ℕ) (d : X) → list_all test xs ≡ true → i < length xs → test (get_or xs i d) ≡ true
every_at test [] i d h less = absurd (omega arith)
every_at test (x ∷ xs) zero d h less = (and_true (test x) (list_all test xs) h).0
every_at test (x ∷ xs) (suc i) d h less = every_at test xs i d (and_true (test x) (list_all test xs) h).1 (omega arith)

pub every_map : {X Y : Type 0} (test : Y → Bool) (f : X → Y) (xs : List X) → list_all test (map f xs) ≡ list_all (λ x. test (f x)) xs
every_map test f [] = refl
every_map test f (x ∷ xs) = ap (λ b. test (f x) && b) (every_map test f xs)
