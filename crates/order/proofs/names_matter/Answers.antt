use Rattle.order.proofs.Forged.{names_matter}
use Rattle.order.proofs.names_matter.Goals as goal

pub returns : goal.returns
returns c = names_matter
