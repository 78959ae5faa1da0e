use Rattle.journal.proofs.Filing.{filed_take}
use Rattle.journal.proofs.laws.taking_is_filed.Goals as goal

pub returns : goal.returns
returns c = filed_take
