-- The order of any puts that the table held takes the step too.
use Rattle.std.proofs.Common.{◌∙◌}
use Rattle.table.proofs.Orders.{step_of_same}
use Rattle.table.proofs.Table.between.Goals as goal

pub returns-clause-ordered : goal.returns-clause-ordered
returns-clause-ordered c = λ _ Q e u v. c.put_line.ensures.put u v ∙ step_of_same _ _ _ e u v
