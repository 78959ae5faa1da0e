use Rattle.history.proofs.Taking.{sane_empty}
use Rattle.history.proofs.laws.empty_book_is_sane.Goals as goal

pub returns : goal.returns
returns c = sane_empty
