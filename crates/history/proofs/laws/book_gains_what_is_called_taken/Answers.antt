use Rattle.history.proofs.Taking.{came_in}
use Rattle.history.proofs.laws.book_gains_what_is_called_taken.Goals as goal

pub returns : goal.returns
returns c = came_in
