use Rattle.world.proofs.Forging.{nothing_forged}
use Rattle.world.proofs.one_change_to_a_name_unless_forged.Goals as goal

pub returns : goal.returns
returns c = nothing_forged
