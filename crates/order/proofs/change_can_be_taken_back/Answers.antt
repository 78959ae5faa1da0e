use Rattle.order.proofs.TakenBack.{taken_back_lem}
use Rattle.order.proofs.change_can_be_taken_back.Goals as goal

pub returns : goal.returns
returns c = taken_back_lem
