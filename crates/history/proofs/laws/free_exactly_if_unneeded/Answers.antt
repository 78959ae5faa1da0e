use Rattle.history.proofs.Back.{free_is_unneeded}
use Rattle.history.proofs.laws.free_exactly_if_unneeded.Goals as goal

pub returns : goal.returns
returns c = free_is_unneeded
