use Rattle.blocks.proofs.Sets.{set_plain}
use Rattle.blocks.proofs.set_plain_blocks.Goals as goal

pub returns : goal.returns
returns c = set_plain
