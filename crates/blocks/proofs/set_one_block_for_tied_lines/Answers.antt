use Rattle.blocks.proofs.Sets.{set_same_block}
use Rattle.blocks.proofs.set_one_block_for_tied_lines.Goals as goal

pub returns : goal.returns
returns c = set_same_block
