use Rattle.std.proofs.Common.{◌++◌, vec_items, ap, ◌∙◌, arith}
use Rattle.change.specs.Bytes.{number_bytes}
use Rattle.change.proofs.Appended.{one_more_written}
use Rattle.letters.proofs.Places.{names_written}
use Rattle.letters.proofs.names.writing.names_bytes.Goals as goal

pub loop-n-preserved : goal.loop-n-preserved
loop-n-preserved c =
    one_more_written number_bytes _ c.args.names.now c.loop-n.n-index _ c.loop-n.invariant 0 _ (omega arith)
    (c.in_ok-extend_from_slice-2.ensures.items ∙ ap (λ l. vec_items c.loop-n.out ++ l) c.to_be_bytes.ensures)

pub returns : goal.returns
returns c =
    names_written c.args.names.now c.loop-n.n-index c.loop-n.invariant c.in_ok-extend_from_slice.ensures.items c.new-out.ensures.items c.head.ensures c.loop-n-test.false
