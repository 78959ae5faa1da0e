use Rattle.outgoing.proofs.Telling.{one_name_list}
use Rattle.outgoing.proofs.laws.one_name_list.Goals as goal

pub returns : goal.returns
returns c = one_name_list
