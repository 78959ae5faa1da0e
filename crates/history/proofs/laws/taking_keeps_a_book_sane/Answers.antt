use Rattle.history.proofs.Taking.{sane_take}
use Rattle.history.proofs.laws.taking_keeps_a_book_sane.Goals as goal

pub returns : goal.returns
returns c = sane_take
