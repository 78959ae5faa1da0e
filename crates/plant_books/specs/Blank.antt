-- A book in which nothing has come yet.
-- is_blank B: B has no changes, none waits, and none of its plant ever came.
-- Assumes nothing.
use Rattle.std.specs.Prelude.{Bool, ◌&&◌, length, ◌==◌}
use Rattle.history.specs.Book.{Book}

abbrev pub is_blank : Book → Bool
is_blank B = length B.changes == 0 && (length B.waiting == 0 && B.highest == 0)
