use Rattle.order.proofs.Agreement.{steady}
use Rattle.order.proofs.change_leaves_order.Goals as goal

pub returns : goal.returns
returns c = steady
