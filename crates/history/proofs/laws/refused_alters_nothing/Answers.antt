use Rattle.history.proofs.Taking.{refused_alters_nothing}
use Rattle.history.proofs.laws.refused_alters_nothing.Goals as goal

pub returns : goal.returns
returns c = refused_alters_nothing
