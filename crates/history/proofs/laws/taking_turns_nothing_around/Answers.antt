use Rattle.history.proofs.Taking.{nothing_turns_around}
use Rattle.history.proofs.laws.taking_turns_nothing_around.Goals as goal

pub returns : goal.returns
returns c = nothing_turns_around
