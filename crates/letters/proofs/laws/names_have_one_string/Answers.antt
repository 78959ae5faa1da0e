use Rattle.letters.proofs.Codec.{names_have_one_string}
use Rattle.letters.proofs.laws.names_have_one_string.Goals as goal

pub returns : goal.returns
returns c = names_have_one_string
