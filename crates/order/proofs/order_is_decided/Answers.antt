use Rattle.order.proofs.OneSet.{decided}
use Rattle.order.proofs.order_is_decided.Goals as goal

pub returns : goal.returns
returns c = decided
