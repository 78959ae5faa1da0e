use Rattle.world.proofs.Passing.{passed_both_known}
use Rattle.world.proofs.passed_both_ways_but_for_known.Goals as goal

pub returns : goal.returns
returns c = passed_both_known
