use Rattle.making.proofs.Needs.{made_as_asked}
use Rattle.making.proofs.made_as_asked.Goals as goal

pub returns : goal.returns
returns c = made_as_asked
