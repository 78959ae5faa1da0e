use Rattle.sending.proofs.Closing.{closed_together}
use Rattle.sending.proofs.letter_is_closed.Goals as goal

pub returns : goal.returns
returns c = closed_together
