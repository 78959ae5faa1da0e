use Rattle.making.proofs.Needs.{needs_exactly}
use Rattle.making.proofs.needs_are_exact.Goals as goal

pub returns : goal.returns
returns c = needs_exactly
