use Rattle.order.proofs.OneName.{sound_is_closed}
use Rattle.order.proofs.sound_is_closed.Goals as goal

pub returns : goal.returns
returns c = sound_is_closed
