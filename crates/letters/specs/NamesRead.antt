-- What bytes read as, as the names that a book has.
-- Assumes nothing.
use Rattle.std.specs.Prelude.{ℕ, List, [], Ok, Err}
use Rattle.change.specs.Reading.{Read}
use Rattle.letters.specs.Names.{names_of}

abbrev pub values_of : {X : Type 0} → Read (List X) → List X
values_of (Ok (xs, rest)) = xs
values_of (Err e) = []

unfoldable pub names_read : List ℕ → List ℕ
names_read bytes = values_of (names_of bytes)
