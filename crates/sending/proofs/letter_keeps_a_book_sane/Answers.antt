use Rattle.sending.proofs.Receiving.{received_sane}
use Rattle.sending.proofs.letter_keeps_a_book_sane.Goals as goal

pub returns : goal.returns
returns c = received_sane
