-- The bytes lie behind those in use, and the entry says where they begin.
use Rattle.std.proofs.Common.{[], ◌∷◌, ◌++◌, ap, ◌∙◌, arith}
use Rattle.change.specs.Viewed.{viewed}
use Rattle.store.specs.Entries.{entry_of}
use Rattle.store.proofs.Laid.{laid_is_kept, laid_reads, laid_marked}
use Rattle.store.proofs.Pushed.{laid_behind}
use Rattle.store.proofs.Store.push.Goals as goal

pub invariant_of-self-2 : goal.invariant_of-self-2
invariant_of-self-2 c =
    let added = c.push_reserved.ensures.items ∙ ap (λ es. es ++ entry_of c.args.self.now.used (viewed c.args.view.now) ∷ []) c.in_ok-make_room.ensures.items in
    let laid = laid_behind c.args.self.now c.args.view.now c.bytes-bytes.result.now c.copy_from_slice.new.self c.push_reserved.new.self.items c.bytes-bytes.ensures c.copy_from_slice.ensures.after (omega arith) added in
    record { inside = laid.inside; reads = laid_reads laid; marked = laid_marked laid }

pub returns-clause-pushed : goal.returns-clause-pushed
returns-clause-pushed c =
    let added = c.push_reserved.ensures.items ∙ ap (λ es. es ++ entry_of c.args.self.now.used (viewed c.args.view.now) ∷ []) c.in_ok-make_room.ensures.items in
    laid_is_kept (laid_behind c.args.self.now c.args.view.now c.bytes-bytes.result.now c.copy_from_slice.new.self c.push_reserved.new.self.items c.bytes-bytes.ensures c.copy_from_slice.ensures.after (omega arith) added)
