use Rattle.world.proofs.Whole.{whole_holds}
use Rattle.world.proofs.theorem_of_the_whole.Goals as goal

pub returns : goal.returns
returns c = whole_holds
