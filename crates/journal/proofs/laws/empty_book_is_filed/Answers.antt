use Rattle.journal.proofs.Filing.{filed_empty}
use Rattle.journal.proofs.laws.empty_book_is_filed.Goals as goal

pub returns : goal.returns
returns c = filed_empty
