use Rattle.sending.proofs.Receiving.{all_taken}
use Rattle.sending.proofs.all_comes_in_unless_refused.Goals as goal

pub returns : goal.returns
returns c = all_taken
