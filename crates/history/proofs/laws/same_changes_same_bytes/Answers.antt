use Rattle.history.proofs.Shown.{same_bytes}
use Rattle.history.proofs.laws.same_changes_same_bytes.Goals as goal

pub returns : goal.returns
returns c = same_bytes c.shown_alike.ensures
