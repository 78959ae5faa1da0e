use Rattle.journal.proofs.Arising.{replay_is_taking}
use Rattle.journal.proofs.laws.replaying_is_taking.Goals as goal

pub returns : goal.returns
returns c = replay_is_taking
