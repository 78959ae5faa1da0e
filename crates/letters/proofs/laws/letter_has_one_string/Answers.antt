use Rattle.letters.proofs.Codec.{letter_has_one_string}
use Rattle.letters.proofs.laws.letter_has_one_string.Goals as goal

pub returns : goal.returns
returns c = letter_has_one_string
