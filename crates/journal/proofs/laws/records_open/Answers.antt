use Rattle.journal.proofs.Opening.{records_open}
use Rattle.journal.proofs.laws.records_open.Goals as goal

pub returns : goal.returns
returns c = records_open
