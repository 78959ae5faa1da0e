use Rattle.outgoing.proofs.Telling.{name_list_tells}
use Rattle.outgoing.proofs.laws.name_list_tells.Goals as goal

pub returns : goal.returns
returns c = name_list_tells
