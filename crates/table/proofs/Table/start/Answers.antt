-- A row that begins within the table ends within it.
use Rattle.std.proofs.Common.{rules}
use Rattle.table.proofs.Places.{row_within}
use Rattle.table.proofs.Table.start.Goals as goal

pub returns : goal.returns
returns c = search (rules, row_within)
