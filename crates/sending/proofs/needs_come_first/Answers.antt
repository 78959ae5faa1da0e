use Rattle.sending.proofs.Closing.{after_needs}
use Rattle.sending.proofs.needs_come_first.Goals as goal

pub returns : goal.returns
returns c = after_needs
