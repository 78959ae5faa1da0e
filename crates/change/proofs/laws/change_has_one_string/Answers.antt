use Rattle.change.proofs.Codec.{change_has_one_string}
use Rattle.change.proofs.laws.change_has_one_string.Goals as goal

pub returns : goal.returns
returns c = change_has_one_string
