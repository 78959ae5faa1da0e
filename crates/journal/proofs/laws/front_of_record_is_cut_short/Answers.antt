use Rattle.journal.proofs.Codec.{front_of_record_is_cut_short}
use Rattle.journal.proofs.laws.front_of_record_is_cut_short.Goals as goal

pub returns : goal.returns
returns c = front_of_record_is_cut_short
