use Rattle.history.proofs.Lowest.{lowest_next}
use Rattle.history.proofs.laws.lowest_that_is_ready_is_next.Goals as goal

pub returns : goal.returns
returns c = lowest_next
