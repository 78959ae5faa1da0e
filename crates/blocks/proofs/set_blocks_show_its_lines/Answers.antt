use Rattle.blocks.proofs.Sets.{set_found}
use Rattle.blocks.proofs.set_blocks_show_its_lines.Goals as goal

pub returns : goal.returns
returns c = set_found
