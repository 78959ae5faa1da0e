use Rattle.blocks.proofs.Sets.{set_apart}
use Rattle.blocks.proofs.set_blocks_stand_apart.Goals as goal

pub returns : goal.returns
returns c = set_apart
