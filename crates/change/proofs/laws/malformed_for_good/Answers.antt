use Rattle.change.proofs.Codec.{malformed_for_good}
use Rattle.change.proofs.laws.malformed_for_good.Goals as goal

pub returns : goal.returns
returns c = malformed_for_good
