use Rattle.std.proofs.Common.{◌≡◌, ◌++◌, map, take, drop}
use Rattle.walks.specs.Waiting.{lowered}
use Rattle.walks.proofs.waiting.count_down.Given as goal

abbrev pub invariant-loop-next : goal.invariant-loop-next
invariant-loop-next g l = l.waiting ≡ map (lowered (g.P.Precedence.precedes l.order) l.item) (take l.next-index l.initial.waiting) ++ drop l.next-index l.initial.waiting
