-- A line that is found is a line, and one that is not is none.
use Rattle.lines.proofs.Agreeing.{finding_decides}
use Rattle.lines.proofs.Lines.has.Goals as goal

pub returns : goal.returns
returns c Q keeps = rw c.is_some.ensures (finding_decides keeps c.args.line c.slot_of.result c.slot_of.ensures)
