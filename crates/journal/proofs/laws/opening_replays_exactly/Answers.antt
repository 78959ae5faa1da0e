use Rattle.journal.proofs.Opening.{opens_exactly}
use Rattle.journal.proofs.laws.opening_replays_exactly.Goals as goal

pub returns : goal.returns
returns c = opens_exactly
