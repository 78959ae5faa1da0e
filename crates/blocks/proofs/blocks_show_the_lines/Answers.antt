use Rattle.blocks.proofs.Cuts.{found}
use Rattle.blocks.proofs.blocks_show_the_lines.Goals as goal

pub returns : goal.returns
returns c = found
