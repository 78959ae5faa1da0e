-- A mask of one bit sets or clears that bit alone.
use Rattle.table.proofs.Bytes.{bit_of_set, bit_of_cleared}
use Rattle.table.proofs.bit.with.Goals as goal

pub returns-then-on : goal.returns-then-on
returns-then-on c m h = rw c.if-on.true (bit_of_set c.args.byte c.args.k m c.requires h)

pub returns-else-on : goal.returns-else-on
returns-else-on c m h = rw c.if-on.false (bit_of_cleared c.args.byte c.args.k m c.requires h)
