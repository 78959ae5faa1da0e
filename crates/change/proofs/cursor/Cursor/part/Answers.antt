use Rattle.std.proofs.Common.{rules}
use Rattle.change.proofs.Steps.{part_ends, part_reads}
use Rattle.change.proofs.cursor.Cursor.part.Goals as goal

pub returns-then-bytes-at : goal.returns-then-bytes-at
returns-then-bytes-at c = search (rules, part_ends)

pub returns : goal.returns
returns c = search (rules, part_reads)
