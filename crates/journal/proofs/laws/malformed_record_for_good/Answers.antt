use Rattle.journal.proofs.Codec.{malformed_record_for_good}
use Rattle.journal.proofs.laws.malformed_record_for_good.Goals as goal

pub returns : goal.returns
returns c = malformed_record_for_good
