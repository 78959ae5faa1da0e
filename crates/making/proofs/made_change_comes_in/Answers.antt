use Rattle.making.proofs.Made.{made_comes_in}
use Rattle.making.proofs.made_change_comes_in.Goals as goal

pub returns : goal.returns
returns c = made_comes_in
