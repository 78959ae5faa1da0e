use Rattle.order.proofs.OneSet.{no_ring}
use Rattle.order.proofs.no_line_before_itself.Goals as goal

pub returns : goal.returns
returns c = no_ring
