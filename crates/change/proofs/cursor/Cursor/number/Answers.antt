use Rattle.std.proofs.Common.{rules}
use Rattle.change.proofs.Steps.{number_ends, number_reads}
use Rattle.change.proofs.cursor.Cursor.number.Goals as goal

pub returns-then-bytes-at-lt4 : goal.returns-then-bytes-at-lt4
returns-then-bytes-at-lt4 c = search (rules, number_ends)

pub returns : goal.returns
returns c = search (rules, number_reads)
