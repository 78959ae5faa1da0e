use Rattle.change.specs.Membership.{In}
use Rattle.blocks.specs.Strict.{Says}
use Rattle.blocks.proofs.Reading.{tied_together}
use Rattle.blocks.proofs.one_block_for_tied_lines.Goals as goal

pub returns : goal.returns
returns c before ls = tied_together (Says before) (λ u. In u ls)
