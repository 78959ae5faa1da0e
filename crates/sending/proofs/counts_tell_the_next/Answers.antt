use Rattle.sending.proofs.Counting.{counts_tell}
use Rattle.sending.proofs.counts_tell_the_next.Goals as goal

pub returns : goal.returns
returns c = counts_tell
