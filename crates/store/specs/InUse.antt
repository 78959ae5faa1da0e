-- What bytes in use read as: so many changes, one behind the other.
-- kept_in bytes n: the n changes at the front of the bytes.
-- Assumes nothing.
use Rattle.std.specs.Prelude.{ℕ, List, [], Ok, Err}
use Rattle.change.specs.Model.{Change}
use Rattle.change.specs.Reading.{Read, several, change_of}

-- so many changes, one behind the other
abbrev pub changes_of : ℕ → List ℕ → Read (List Change)
changes_of n bytes = several (λ _. change_of) (λ _. 0) n 0 bytes

abbrev pub values_of : {X : Type 0} → Read (List X) → List X
values_of (Ok (xs, rest)) = xs
values_of (Err e) = []

unfoldable pub kept_in : List ℕ → ℕ → List Change
kept_in bytes n = values_of (changes_of n bytes)
