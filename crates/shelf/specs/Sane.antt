-- The changes on a shelf, and what holds of every shelf.
-- changes s: the changes, the latest first. Sane s: they and their lines belong together.
-- Assumes nothing.
use Rattle.std.specs.Prelude.{List}
use Rattle.change.specs.Model.{Change}
use Rattle.shelf.specs.declared.Shelf.{Shelf}
use Rattle.shelf.specs.Together.{changes_in, Together}

abbrev pub changes : Shelf → List Change
changes s = changes_in s.store

abbrev pub Sane : Shelf → Type 0
Sane s = Together s.store s.lines
