use Rattle.sending.proofs.OneLetter.{one_letter}
use Rattle.sending.proofs.one_letter_only.Goals as goal

pub returns : goal.returns
returns c = one_letter
