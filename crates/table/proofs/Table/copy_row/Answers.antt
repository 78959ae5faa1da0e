-- The bytes of one row are copied over those of another.
use Rattle.table.proofs.Rows.{at_of_copied_row}
use Rattle.table.proofs.Table.copy_row.Goals as goal

pub returns-clause-copied : goal.returns-clause-copied
returns-clause-copied c =
    at_of_copied_row _ _ _ _ _ _ _ _ c.start-first.ensures.is c.start-target.ensures.is c.stride.ensures c.requires.source c.requires.target
    c.copy_within.ensures.by_index
