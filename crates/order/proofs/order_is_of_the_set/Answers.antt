use Rattle.order.proofs.OneSet.{set_alone}
use Rattle.order.proofs.order_is_of_the_set.Goals as goal

pub returns : goal.returns
returns c = set_alone
