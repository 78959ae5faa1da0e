use Rattle.history.proofs.Verdicts.{waits_is_lacks}
use Rattle.history.proofs.laws.waits_exactly_if_it_lacks_a_need.Goals as goal

pub returns : goal.returns
returns c = waits_is_lacks
