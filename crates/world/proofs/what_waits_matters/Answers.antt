use Rattle.world.proofs.Waiting.{waiting_matters}
use Rattle.world.proofs.what_waits_matters.Goals as goal

pub returns : goal.returns
returns c = waiting_matters
