use Rattle.history.proofs.Back.{sane_take_back}
use Rattle.history.proofs.laws.taking_back_keeps_a_book_sane.Goals as goal

pub returns : goal.returns
returns c = sane_take_back
