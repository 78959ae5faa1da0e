use Rattle.letters.proofs.Codec.{malformed_names_for_good}
use Rattle.letters.proofs.laws.malformed_names_for_good.Goals as goal

pub returns : goal.returns
returns c = malformed_names_for_good
