-- Of any puts that the table held, those of the other lines remain.
use Rattle.std.proofs.Common.{◌∙◌, arith}
use Rattle.std.proofs.lemmas.Bool.Decides.{nat_tests}
use Rattle.order.proofs.Cleared.{cleared_bef}
use Rattle.table.proofs.Orders.{cleared_of_same}
use Rattle.table.proofs.Table.let_go.Goals as goal

pub returns-clause-ordered : goal.returns-clause-ordered
returns-clause-ordered c = λ _ Q none e u v. c.clear_line.ensures.cleared u v ∙ (cleared_of_same _ _ c.args.x e u v ∙ cleared_bef Q c.args.x (grind (arith, nat_tests, c.is_for_lines.ensures, c.if-not-is_for_lines.false)) none u v)
