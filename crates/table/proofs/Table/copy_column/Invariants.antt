-- What the pass has done so far: the rows above hold the copy.
use Rattle.table.specs.Cells.{at}
use Rattle.table.specs.Edits.{Same}
use Rattle.table.proofs.Columns.{column_up_to}
use Rattle.table.proofs.Table.copy_column.Given as goal

abbrev pub invariant-loop-i : goal.invariant-loop-i
invariant-loop-i l =
    Same (at l.bits l.slots) (column_up_to (at l.initial.bits l.slots) l.to (λ u. at l.initial.bits l.slots u l.from) l.i)
