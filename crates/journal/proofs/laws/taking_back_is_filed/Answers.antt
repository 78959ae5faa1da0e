use Rattle.journal.proofs.Filing.{filed_back}
use Rattle.journal.proofs.laws.taking_back_is_filed.Goals as goal

pub returns : goal.returns
returns c = filed_back
