use Rattle.making.proofs.Made.{made_name_is_new}
use Rattle.making.proofs.made_name_is_new.Goals as goal

pub returns : goal.returns
returns c = made_name_is_new
