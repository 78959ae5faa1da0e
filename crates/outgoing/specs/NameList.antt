-- The names of the changes that a book has, as it tells them.
-- name_list S: the names of the changes S, in rising order.
-- Assumes nothing.
use Rattle.std.specs.Prelude.{ℕ, List}
use Rattle.change.specs.Model.{Change}
use Rattle.making.specs.Sorted.{sorted}
use Rattle.sending.specs.Sending.{names_of}

abbrev pub name_list : List Change → List ℕ
name_list S = sorted (names_of S)
