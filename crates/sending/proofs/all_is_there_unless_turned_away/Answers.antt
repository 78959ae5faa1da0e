use Rattle.sending.proofs.There.{all_there}
use Rattle.sending.proofs.all_is_there_unless_turned_away.Goals as goal

pub returns : goal.returns
returns c = all_there
