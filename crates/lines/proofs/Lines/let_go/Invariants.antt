-- The slots so far are free where they had one of the lines.
use Rattle.lines.proofs.Going.{Gone}
use Rattle.lines.proofs.Lines.let_go.Given as goal

abbrev pub invariant-loop-slot : goal.invariant-loop-slot
invariant-loop-slot l = Gone l.initial.self l.self l.first l.count l.slot
