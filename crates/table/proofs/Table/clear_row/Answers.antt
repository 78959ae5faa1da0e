-- The bytes of one row are made 0.
use Rattle.table.proofs.Rows.{at_of_cleared_row}
use Rattle.table.proofs.Table.clear_row.Goals as goal

pub returns-clause-cleared : goal.returns-clause-cleared
returns-clause-cleared c =
    at_of_cleared_row _ _ _ _ _ _ c.start-first.ensures.is c.stride.ensures c.requires c.args.self.now.sized.room
    (c.fill.ensures.after (λ _ e. e))
