use Rattle.std.proofs.Common.{Decides, sym, subst}
use Rattle.order.specs.Good.{Stands}
use Rattle.order.proofs.Table.{bef_decides}
use Rattle.table.proofs.laws.asking_is_exact.Goals as goal

pub returns : goal.returns
returns c t Q good holds i j = subst (λ b. Decides b (Stands Q i j)) (sym (holds i j)) (bef_decides Q good i j)
