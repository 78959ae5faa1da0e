use Rattle.history.proofs.Back.{rest_stands}
use Rattle.history.proofs.laws.taking_back_turns_nothing_around.Goals as goal

pub returns : goal.returns
returns c = rest_stands
