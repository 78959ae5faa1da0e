use Rattle.std.proofs.Common.{vec_items, vec_len}
use Rattle.walks.proofs.Going.{Going}
use Rattle.walks.proofs.walked.Given as goal

abbrev pub invariant-loop-place : goal.invariant-loop-place
invariant-loop-place g l = Going (g.P.Precedence.precedes l.order) (g.P.Precedence.rank l.order) l.items (vec_items l.waiting) (vec_items l.walked)

abbrev pub decreases-loop-place : goal.decreases-loop-place
decreases-loop-place g l = vec_len l.waiting
