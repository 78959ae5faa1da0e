use Rattle.sending.proofs.Walks.{sent_sends}
use Rattle.sending.proofs.letter_is_what_is_lacking.Goals as goal

pub returns : goal.returns
returns c = sent_sends
