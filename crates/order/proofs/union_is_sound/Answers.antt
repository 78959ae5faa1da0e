use Rattle.order.proofs.Unions.{union_sound}
use Rattle.order.proofs.union_is_sound.Goals as goal

pub returns : goal.returns
returns c = union_sound
