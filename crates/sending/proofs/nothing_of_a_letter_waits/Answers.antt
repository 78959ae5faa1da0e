use Rattle.sending.proofs.Receiving.{nothing_waits}
use Rattle.sending.proofs.nothing_of_a_letter_waits.Goals as goal

pub returns : goal.returns
returns c = nothing_waits
