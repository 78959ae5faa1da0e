use Rattle.order.proofs.Agreement.{agree}
use Rattle.order.proofs.sound_sets_agree.Goals as goal

pub returns : goal.returns
returns c = agree
