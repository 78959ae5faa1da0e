use Rattle.blocks.proofs.Sets.{set_between}
use Rattle.blocks.proofs.set_shown_between.Goals as goal

pub returns : goal.returns
returns c = set_between
