use Rattle.journal.proofs.Arising.{replay_is_taking_back}
use Rattle.journal.proofs.laws.replaying_is_taking_back.Goals as goal

pub returns : goal.returns
returns c = replay_is_taking_back
