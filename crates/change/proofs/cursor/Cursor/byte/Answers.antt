use Rattle.std.proofs.Common.{rules}
use Rattle.change.proofs.Steps.{byte_ends, byte_reads}
use Rattle.change.proofs.cursor.Cursor.byte.Goals as goal

pub returns-then-at-bytes : goal.returns-then-at-bytes
returns-then-at-bytes c = search (rules, byte_ends)

pub returns : goal.returns
returns c = search (rules, byte_reads)
