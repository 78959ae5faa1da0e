-- What a cursor still has to read.
-- lent c: all its bytes. left c: those still to be read. is_next b bytes: the first of the bytes, if there is one, is b.
-- Assumes nothing.
use Rattle.std.specs.Prelude.{ℕ, Bool, false, List, [], ◌∷◌, drop, ◌==◌}
use Rattle.change.specs.declared.cursor.Cursor.{Cursor}

abbrev pub lent : Cursor → List ℕ
lent c = c.bytes.now

abbrev pub left : Cursor → List ℕ
left c = drop c.at (lent c)

abbrev pub is_next : ℕ → List ℕ → Bool
is_next b [] = false
is_next b (x ∷ bytes) = x == b
