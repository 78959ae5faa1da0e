use Rattle.std.proofs.Common.{[], vec_items, refl, arith}
use Rattle.store.specs.Laid.{Laid}
use Rattle.store.proofs.Laid.{laid_is_kept, laid_reads, laid_marked}
use Rattle.store.proofs.Store.new.Goals as goal

pub invariant_of-result : goal.invariant_of-result
invariant_of-result c =
    let laid : Laid c.args.area.now 0 (vec_items c.new.result) [] = record { inside = omega arith; formed = refl; bytes = refl; marked = c.new.ensures.items } in
    record { inside = laid.inside; reads = laid_reads laid; marked = laid_marked laid }

pub returns : goal.returns
returns c =
    let laid : Laid c.args.area.now 0 (vec_items c.new.result) [] = record { inside = omega arith; formed = refl; bytes = refl; marked = c.new.ensures.items } in
    record { empty = laid_is_kept laid; area = refl }
