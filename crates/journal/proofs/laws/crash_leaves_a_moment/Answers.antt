use Rattle.journal.proofs.Always.{crash_leaves_a_moment}
use Rattle.journal.proofs.laws.crash_leaves_a_moment.Goals as goal

pub returns : goal.returns
returns c = crash_leaves_a_moment
