use Rattle.blocks.proofs.Living.{living_alive}
use Rattle.blocks.proofs.living_lines_live.Goals as goal

pub returns : goal.returns
returns c = living_alive
