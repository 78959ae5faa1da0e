use Rattle.world.proofs.Passing.{passed_both}
use Rattle.world.proofs.passed_both_ways_same_bytes.Goals as goal

pub returns : goal.returns
returns c = passed_both
