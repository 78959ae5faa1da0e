use Rattle.order.proofs.Lattice.{meets}
use Rattle.order.proofs.lines_have_meets.Goals as goal

pub returns : goal.returns
returns c = meets
