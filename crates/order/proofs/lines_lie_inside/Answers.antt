use Rattle.order.proofs.OneSet.{all_inside}
use Rattle.order.proofs.lines_lie_inside.Goals as goal

pub returns : goal.returns
returns c = all_inside
