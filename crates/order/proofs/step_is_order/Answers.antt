use Rattle.order.proofs.Table.{step_is_order}
use Rattle.order.proofs.step_is_order.Goals as goal

pub returns : goal.returns
returns c = step_is_order
