use Rattle.journal.proofs.Opening.{opens_again}
use Rattle.journal.proofs.laws.what_is_kept_opens_again.Goals as goal

pub returns : goal.returns
returns c = opens_again
