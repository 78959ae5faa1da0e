use Rattle.letters.proofs.Codec.{front_of_letter_is_cut_short}
use Rattle.letters.proofs.laws.front_of_letter_is_cut_short.Goals as goal

pub returns : goal.returns
returns c = front_of_letter_is_cut_short
