use Rattle.history.proofs.Counts.{next_is_new}
use Rattle.history.proofs.laws.next_name_is_new.Goals as goal

pub returns : goal.returns
returns c = next_is_new
