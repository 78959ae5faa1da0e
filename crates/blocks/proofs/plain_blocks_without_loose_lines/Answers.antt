use Rattle.change.specs.Membership.{In}
use Rattle.blocks.specs.Strict.{Says}
use Rattle.blocks.proofs.Reading.{one_by_one}
use Rattle.blocks.proofs.plain_blocks_without_loose_lines.Goals as goal

pub returns : goal.returns
returns c before ls = one_by_one (Says before) (λ u. In u ls)
