use Rattle.history.proofs.Shown.{as_if_never}
use Rattle.history.proofs.laws.as_if_it_never_came.Goals as goal

pub returns : goal.returns
returns c = as_if_never c.shown_alike.ensures
