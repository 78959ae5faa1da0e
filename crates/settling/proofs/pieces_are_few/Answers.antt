use Rattle.settling.proofs.CutUp.{pieces_are_few}
use Rattle.settling.proofs.pieces_are_few.Goals as goal

pub returns : goal.returns
returns c = pieces_are_few
