use Rattle.history.proofs.Taking.{events_of_waiting}
use Rattle.history.proofs.laws.later_events_are_of_changes_that_waited.Goals as goal

pub returns : goal.returns
returns c = events_of_waiting
