use Rattle.std.proofs.Common.{◌+◌, subst, arith}
use Rattle.table.specs.Held.{held}
use Rattle.sheet.specs.Ends.{BlockEnd}
use Rattle.sheet.proofs.Joining.{one_more_joined}
use Rattle.sheet.proofs.block.+block_end.Goals as goal

pub returns-else-place-end : goal.returns-else-place-end
returns-else-place-end t c =
    let R = held c.args.table.now in
    let ls = c.args.walked.now in
    let place = c.args.place in
    let r = c.block_end.result in
    one_more_joined R ls place c.args.end c.reach-far.result r (omega arith) c.reach-far.ensures (subst (λ m. BlockEnd R ls (place + 1) m r) c.max.ensures c.block_end.ensures)
