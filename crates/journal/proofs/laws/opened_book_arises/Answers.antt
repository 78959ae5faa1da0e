use Rattle.journal.proofs.Arising.{opened_arises}
use Rattle.journal.proofs.laws.opened_book_arises.Goals as goal

pub returns : goal.returns
returns c = opened_arises
