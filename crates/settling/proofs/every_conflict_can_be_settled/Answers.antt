use Rattle.settling.proofs.Conflict.{every_conflict_settles}
use Rattle.settling.proofs.every_conflict_can_be_settled.Goals as goal

pub returns : goal.returns
returns c = every_conflict_settles
