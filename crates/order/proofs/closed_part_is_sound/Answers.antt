use Rattle.order.proofs.ClosedPart.{part_sound}
use Rattle.order.proofs.closed_part_is_sound.Goals as goal

pub returns : goal.returns
returns c = part_sound
