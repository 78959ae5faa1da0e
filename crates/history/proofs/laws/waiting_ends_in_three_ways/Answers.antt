use Rattle.history.proofs.Taking.{waiting_ends}
use Rattle.history.proofs.laws.waiting_ends_in_three_ways.Goals as goal

pub returns : goal.returns
returns c = waiting_ends
