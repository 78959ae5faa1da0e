use Rattle.history.proofs.Later.{sane_later}
use Rattle.history.proofs.laws.book_stays_sane.Goals as goal

pub returns : goal.returns
returns c = sane_later
