use Rattle.settling.proofs.Settle.{settles_in_pieces}
use Rattle.settling.proofs.block_is_settled_in_pieces.Goals as goal

pub returns : goal.returns
returns c = settles_in_pieces
