use Rattle.journal.proofs.Codec.{record_has_one_string}
use Rattle.journal.proofs.laws.record_has_one_string.Goals as goal

pub returns : goal.returns
returns c = record_has_one_string
