use Rattle.world.proofs.Passed.{pass_is_taking}
use Rattle.world.proofs.pass_is_taking_a_letter.Goals as goal

pub returns : goal.returns
returns c = pass_is_taking
