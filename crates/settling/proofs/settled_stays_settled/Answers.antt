use Rattle.settling.proofs.Staying.{stays_settled}
use Rattle.settling.proofs.settled_stays_settled.Goals as goal

pub returns : goal.returns
returns c = stays_settled
