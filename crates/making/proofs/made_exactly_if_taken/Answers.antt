use Rattle.making.proofs.Exact.{made_if_taken}
use Rattle.making.proofs.made_exactly_if_taken.Goals as goal

pub returns : goal.returns
returns c = made_if_taken
