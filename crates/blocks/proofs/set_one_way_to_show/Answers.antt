use Rattle.blocks.proofs.Sets.{set_one_way}
use Rattle.blocks.proofs.set_one_way_to_show.Goals as goal

pub returns : goal.returns
returns c = set_one_way
