-- The byte by which each kind of message or record is known.
-- Assumes nothing.
use Rattle.std.specs.Prelude.{ℕ}
use Rattle.change.specs.declared.kind.Kind.{Kind}
use Rattle.change.specs.declared.kind.Kind.TheVariants as kind

abbrev pub mark_of : Kind → ℕ
mark_of kind.Change = 1
mark_of kind.Letter = 2
mark_of kind.Names = 3
mark_of kind.TakenBack = 4
