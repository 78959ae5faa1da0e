use Rattle.journal.proofs.Always.{filed_always}
use Rattle.journal.proofs.laws.file_follows_the_book.Goals as goal

pub returns : goal.returns
returns c = filed_always
