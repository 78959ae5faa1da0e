use Rattle.order.proofs.Cleared.{cleared_is_order}
use Rattle.order.proofs.cleared_is_order.Goals as goal

pub returns : goal.returns
returns c = cleared_is_order
