use Rattle.std.proofs.Common.{rules}
use Rattle.change.proofs.Steps.{next_ends, next_is}
use Rattle.change.proofs.cursor.Cursor.is_next.Goals as goal

pub returns-then-at-bytes : goal.returns-then-at-bytes
returns-then-at-bytes c = search (rules, next_ends)

pub returns : goal.returns
returns c = search (rules, next_is)
