use Rattle.std.proofs.Common.{true, false, arith}
use Rattle.walks.proofs.Counts.{lowered_more}
use Rattle.walks.proofs.waiting.count_down.Goals as goal
use Rattle.walks.proofs.waiting.count_down.Goals.{then-precedes, else-precedes}

pub loop-next-preserved : goal.loop-next-preserved
loop-next-preserved g c =
    let more = lowered_more (g.P.Precedence.precedes c.args.order.now) c.args.item.now c.args.waiting.now c.loop-next.waiting c.loop-next.next-index c.next-item.result (omega arith) c.loop-next.invariant c.next-item.is in
    elim c.if-precedes.branch [ then-precedes w ↦ more true c.if-precedes.waiting w.if-precedes.ensures w.waiting-is | else-precedes w ↦ more false c.if-precedes.waiting w.if-precedes.ensures w.waiting-is ]
