use Rattle.std.proofs.Common.{vec_items}
use Rattle.table.specs.Held.{held}
use Rattle.sheet.proofs.Stepping.{Stepping}
use Rattle.sheet.proofs.Writing.{Writing}
use Rattle.sheet.proofs.show.Given as goal

abbrev pub invariant-loop-block : goal.invariant-loop-block
invariant-loop-block l =
    Stepping l.initial.block-iterator l.block-iterator × Writing (held l.initial.block-iterator.table.now) l.area l.initial.block-iterator.walked.now l.block-iterator.start (vec_items l.out)
