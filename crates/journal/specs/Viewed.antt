-- The record that a view shows.
-- recorded v: the record. Formed v: a change in it is well-formed, and a name in it is a name.
-- Assumes nothing.
use Rattle.std.specs.Prelude.{◌≡◌, true}
use Rattle.change.specs.declared.view.ChangeView.{ChangeView}
use Rattle.change.specs.Viewed as changes
use Rattle.change.specs.WellFormed.{is_name, well_formed}
use Rattle.journal.specs.declared.record.Told.{Told}
use Rattle.journal.specs.declared.record.Told.TheVariants.{Came, Went}
use Rattle.journal.specs.Record.{Record, came, went}

abbrev pub recorded : Told ChangeView → Record
recorded (Came v) = came (changes.viewed v)
recorded (Went n) = went n.0

abbrev pub Formed : Told ChangeView → Type 0
Formed (Came v) = well_formed (changes.viewed v) ≡ true
Formed (Went n) = is_name n.0 ≡ true
