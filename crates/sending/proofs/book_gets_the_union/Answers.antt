use Rattle.sending.proofs.Union.{gets_the_union}
use Rattle.sending.proofs.book_gets_the_union.Goals as goal

pub returns : goal.returns
returns c = gets_the_union
