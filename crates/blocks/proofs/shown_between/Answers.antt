use Rattle.change.specs.Membership.{In}
use Rattle.blocks.specs.Strict.{Says}
use Rattle.blocks.proofs.Reading.{middle}
use Rattle.blocks.proofs.shown_between.Goals as goal

pub returns : goal.returns
returns c before strict ls blocks shows = middle (Says before) (λ u. In u ls) blocks shows strict
