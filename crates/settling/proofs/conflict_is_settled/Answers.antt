use Rattle.settling.proofs.Conflict.{conflict_settles}
use Rattle.settling.proofs.conflict_is_settled.Goals as goal

pub returns : goal.returns
returns c = conflict_settles
