use Rattle.blocks.proofs.Sets.{set_upper}
use Rattle.blocks.proofs.set_upper_stands_before.Goals as goal

pub returns : goal.returns
returns c = set_upper
