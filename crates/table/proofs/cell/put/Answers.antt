-- One byte is written, and it differs in one bit at most.
use Rattle.std.proofs.Common.{rules}
use Rattle.table.proofs.Places.{at_of_put}
use Rattle.table.proofs.cell.put.Goals as goal

pub returns : goal.returns
returns c = search (rules, at_of_put)
