use Rattle.making.proofs.Lowest.{made_unless_refused}
use Rattle.making.proofs.made_unless_refused.Goals as goal

pub returns : goal.returns
returns c = made_unless_refused
