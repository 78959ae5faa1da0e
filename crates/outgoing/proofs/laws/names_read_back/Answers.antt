use Rattle.outgoing.proofs.Telling.{names_read_back}
use Rattle.outgoing.proofs.laws.names_read_back.Goals as goal

pub returns : goal.returns
returns c = names_read_back
