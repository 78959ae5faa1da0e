use Rattle.sending.proofs.OneLetter.{sent_alike}
use Rattle.sending.proofs.letter_is_of_the_set.Goals as goal

pub returns : goal.returns
returns c = sent_alike
