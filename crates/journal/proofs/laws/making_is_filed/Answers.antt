use Rattle.journal.proofs.Filing.{filed_made}
use Rattle.journal.proofs.laws.making_is_filed.Goals as goal

pub returns : goal.returns
returns c = filed_made
