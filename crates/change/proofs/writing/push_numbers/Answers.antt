use Rattle.std.proofs.Common.{arith}
use Rattle.change.specs.Bytes.{number_bytes}
use Rattle.change.proofs.Appended.{one_more_written, all_written}
use Rattle.change.proofs.writing.push_numbers.Goals as goal

pub loop-n-preserved : goal.loop-n-preserved
loop-n-preserved c = one_more_written number_bytes _ c.args.numbers.now c.loop-n.n-index _ c.loop-n.invariant 0 _ (omega arith) c.in_ok-push_number.ensures

pub returns : goal.returns
returns c = all_written number_bytes _ c.args.numbers.now c.loop-n.n-index _ c.loop-n.invariant _ (omega arith) c.in_ok-push.ensures.items
