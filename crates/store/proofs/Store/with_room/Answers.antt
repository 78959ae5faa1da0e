use Rattle.std.proofs.Common.{[], vec_items, refl, arith}
use Rattle.store.specs.Laid.{Laid}
use Rattle.store.proofs.Laid.{laid_is_kept, laid_reads, laid_marked}
use Rattle.store.proofs.Store.with_room.Goals as goal

pub invariant_of-result : goal.invariant_of-result
invariant_of-result c =
    let laid : Laid c.args.area.now 0 (vec_items c.in_ok-entries.entries) [] = record { inside = omega arith; formed = refl; bytes = refl; marked = c.in_ok-entries.ensures.items } in
    record { inside = laid.inside; reads = laid_reads laid; marked = laid_marked laid }

pub returns : goal.returns
returns c =
    let laid : Laid c.args.area.now 0 (vec_items c.in_ok-entries.entries) [] = record { inside = omega arith; formed = refl; bytes = refl; marked = c.in_ok-entries.ensures.items } in
    record { empty = laid_is_kept laid; most = c.in_ok-entries.ensures.capacity; space = refl }
