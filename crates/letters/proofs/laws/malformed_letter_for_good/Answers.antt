use Rattle.letters.proofs.Codec.{malformed_letter_for_good}
use Rattle.letters.proofs.laws.malformed_letter_for_good.Goals as goal

pub returns : goal.returns
returns c = malformed_letter_for_good
