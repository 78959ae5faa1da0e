use Rattle.std.proofs.Common.{arith}
use Rattle.std.proofs.lemmas.Bool.Decides.{not_from_Decides}
use Rattle.table.specs.Held.{held}
use Rattle.conflicts.proofs.Cut.{is_block_of, is_no_block_of}
use Rattle.conflicts.proofs.block.block_of.Goals as goal
use Rattle.conflicts.proofs.block.block_of.Goals.{then-block-lt2-via-then-block-lt2, then-block-lt2-via-else-block-lt2+then-not-has_exactly}

pub returns-then-block-lt2 : goal.returns-then-block-lt2
returns-then-block-lt2 c =
    let first = c.in_ok-first.ensures.item.3 in
    let found = c.in_ok-block.ensures in
    is_no_block_of (held c.args.table.now) c.args.walked.now c.args.order.now found.0 found.1 c.in_ok-block.block found.2 found.3 c.in_ok-first.first.now first.0 (first.1 0) found.4
    (λ long same. elim c.then-block-lt2.branch [
      | then-block-lt2-via-then-block-lt2 w ↦ omega (arith, w.if-block-lt2.true, long)
      | then-block-lt2-via-else-block-lt2+then-not-has_exactly w ↦ not_from_Decides _ w.has_exactly.ensures w.if-not-has_exactly.true same
    ])

pub returns : goal.returns
returns c =
    let found = c.in_ok-block.ensures in (
      found.0,
      found.1,
      found.2,
      is_block_of (held c.args.table.now) c.args.walked.now c.args.order.now found.0 found.1 c.in_ok-block.block found.2 found.3 c.if-block-lt2.false (c.has_exactly.ensures.0 c.if-not-has_exactly.false),
    )
