use Rattle.change.specs.Membership.{In}
use Rattle.blocks.specs.Strict.{Says}
use Rattle.blocks.proofs.Reading.{upper}
use Rattle.blocks.proofs.upper_stands_before.Goals as goal

pub returns : goal.returns
returns c before strict ls blocks shows = upper (Says before) (λ u. In u ls) blocks shows strict
