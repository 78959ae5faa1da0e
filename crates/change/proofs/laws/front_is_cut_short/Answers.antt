use Rattle.change.proofs.Codec.{front_of_change_is_cut_short}
use Rattle.change.proofs.laws.front_is_cut_short.Goals as goal

pub returns : goal.returns
returns c = front_of_change_is_cut_short
