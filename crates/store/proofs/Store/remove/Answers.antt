use Rattle.std.proofs.Common.{◌≡◌, ◌+◌, ◌-◌, ◌<◌, leb, ◌++◌, length, take, vec_items, sym, refl, ap, ◌∙◌, arith, rules, lt-ltb}
use borrow.Rule.Slice.PartMut.{post_of}
use Rattle.std.specs.Vec.{with_items}
use Rattle.std.proofs.lemmas.List.{with_items_is}
use Rattle.std.specs.List.{list_all}
use Rattle.store.specs.Entries.{lowered}
use Rattle.store.specs.Kept.{kept, entries_of}
use Rattle.store.proofs.Laid.{whole_is_laid, laid_is_kept, laid_reads, laid_marked}
use Rattle.store.proofs.Places.{length_kept, start_on, start_inside}
use Rattle.store.proofs.Removed.{back_of_removed, removed_then_mapped, later_start_past, laid_removed}
use Rattle.store.proofs.Store.remove.Goals as goal

pub returns-then-place-len : goal.returns-then-place-len
returns-then-place-len c =
    let n = length_kept c.args.self.now in
    record { answer = search rules; removed = refl; area = refl; room = record { most = refl; space = refl } }

pub overflow_sub-size : goal.overflow_sub-size
overflow_sub-size c = omega (arith, start_on c.args.self.now c.args.place (omega arith))

pub copy_within-requires : goal.copy_within-requires
copy_within-requires c =
    let on = start_on c.args.self.now c.args.place (omega arith) in
    let inside = start_inside c.args.self.now (c.args.place + 1) in
    search rules

pub overflow_sub-self : goal.overflow_sub-self
overflow_sub-self c = omega (arith, start_inside c.args.self.now (c.args.place + 1))

pub lower-requires : goal.lower-requires
lower-requires c =
    let s = c.args.self.now in
    let size = c.start-end.result - c.start-start.result in
    let later = back_of_removed (entries_of s) c.as_mut_slice.result.now c.args.place (omega (arith, s.entries.ok.0)) (c.as_mut_slice.ensures.value ∙ c.remove.ensures.items) in
    ap (list_all (λ e. leb size e.start)) later
    ∙ later_start_past (whole_is_laid s) c.args.place (omega (arith, length_kept s)) c.start-start.result c.start-end.result c.start-start.ensures c.start-end.ensures

pub invariant_of-self : goal.invariant_of-self
invariant_of-self c =
    let s = c.args.self.now in
    let i = c.args.place in
    let es = c.as_mut_slice.result.now in
    let size = c.start-end.result - c.start-start.result in
    let less : i < length (kept s) = omega (arith, length_kept s) in
    let after = take i es ++ (c.lower.new.entries ++ post_of i (length es - i) es) in
    let out = removed_then_mapped (entries_of s) es i (omega (arith, s.entries.ok.0)) (c.as_mut_slice.ensures.value ∙ c.remove.ensures.items) (lowered size) c.lower.new.entries c.lower.ensures in
    let long : length after ≡ c.remove.new.self.len = search rules in
    let laid = laid_removed (whole_is_laid s) i less c.start-start.result c.start-end.result c.start-start.ensures c.start-end.ensures
    c.copy_within.new.self (vec_items (with_items c.remove.new.self after)) c.copy_within.ensures.after c.copy_within.ensures.len (with_items_is c.remove.new.self after long ∙ out) in
    record { inside = laid.inside; reads = laid_reads laid; marked = laid_marked laid }

pub returns : goal.returns
returns c =
    let s = c.args.self.now in
    let i = c.args.place in
    let es = c.as_mut_slice.result.now in
    let size = c.start-end.result - c.start-start.result in
    let less : i < length (kept s) = omega (arith, length_kept s) in
    let after = take i es ++ (c.lower.new.entries ++ post_of i (length es - i) es) in
    let out = removed_then_mapped (entries_of s) es i (omega (arith, s.entries.ok.0)) (c.as_mut_slice.ensures.value ∙ c.remove.ensures.items) (lowered size) c.lower.new.entries c.lower.ensures in
    let long : length after ≡ c.remove.new.self.len = search rules in
    let laid = laid_removed (whole_is_laid s) i less c.start-start.result c.start-end.result c.start-start.ensures c.start-end.ensures
    c.copy_within.new.self (vec_items (with_items c.remove.new.self after)) c.copy_within.ensures.after c.copy_within.ensures.len (with_items_is c.remove.new.self after long ∙ out) in
    record { answer = sym (lt-ltb i (length (kept s)) less); removed = laid_is_kept laid; area = c.copy_within.ensures.len; room = record { most = c.remove.ensures.capacity; space = c.copy_within.ensures.len } }
