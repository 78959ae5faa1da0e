-- A turn marks the first of the slots that are left.
use Rattle.std.proofs.Common.{sym, ◌∙◌, arith}
use Rattle.std.proofs.lemmas.List.{length-set}
use Rattle.lines.proofs.Marks.{marked_next, marked_none}
use Rattle.lines.proofs.numbers.mark.Goals as goal

pub loop-k-preserved : goal.loop-k-preserved
loop-k-preserved c = (
  length-set _ _ _ ∙ c.loop-k.invariant.0,
  marked_next c.loop-k.numbers c.args.slots.now c.args.first c.loop-k.k (omega arith) ∙ c.loop-k.invariant.1,
)

pub returns : goal.returns
returns c = sym (marked_none _ c.args.slots.now _ c.loop-k.k (omega arith)) ∙ c.loop-k.invariant.1
