use Rattle.blocks.proofs.Sets.{shown_one_way}
use Rattle.blocks.proofs.shown_alike.Goals as goal

pub returns : goal.returns
returns c = shown_one_way
