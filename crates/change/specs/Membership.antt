-- Membership in a list, as a type that computes: a set of changes, of names or of lines is a list of which only its members count.
-- In x xs: x is among xs. Within xs ys: each member of xs is one of ys. SameMembers xs ys: each list has the members of the other.
-- Assumes nothing.
use Rattle.std.specs.Prelude.{◌≡◌, ◌⊎◌, List, [], ◌∷◌}

abbrev pub In : {X : Type 0} → X → List X → Type 0
In x [] = ⊥
In x (y ∷ ys) = (x ≡ y) ⊎ In x ys

abbrev pub Within : {X : Type 0} → List X → List X → Type 0
Within {X} xs ys = (x : X) → In x xs → In x ys

abbrev pub SameMembers : {X : Type 0} → List X → List X → Type 0
SameMembers xs ys = Within xs ys × Within ys xs
