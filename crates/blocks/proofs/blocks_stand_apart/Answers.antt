use Rattle.order.proofs.Deciding.{decides_itself}
use Rattle.blocks.proofs.Ties.{decidable, apart}
use Rattle.blocks.proofs.blocks_stand_apart.Goals as goal

pub returns : goal.returns
returns c before strict ls = apart strict (decidable {before = before} (λ u v. decides_itself (before u v)))
