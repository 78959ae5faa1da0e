use Rattle.history.proofs.Later.{name_given_once}
use Rattle.history.proofs.laws.name_is_given_once.Goals as goal

pub returns : goal.returns
returns c = name_given_once
