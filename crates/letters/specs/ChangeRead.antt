-- What bytes read as, as one change.
-- Assumes nothing.
use Rattle.std.specs.Prelude.{ℕ, List, [], Ok, Err}
use Rattle.change.specs.Model.{Change}
use Rattle.change.specs.Reading.{Read, change_of}

-- what bytes that are no change are taken for
abbrev pub no_change : Change
no_change = record { name = 0; sheet = 0; needs = []; adds = []; kills = [] }

abbrev pub value_of : Read Change → Change
value_of (Ok (c, rest)) = c
value_of (Err e) = no_change

unfoldable pub change_read : List ℕ → Change
change_read bytes = value_of (change_of bytes)
