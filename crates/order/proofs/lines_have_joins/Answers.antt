use Rattle.order.proofs.Lattice.{joins}
use Rattle.order.proofs.lines_have_joins.Goals as goal

pub returns : goal.returns
returns c = joins
