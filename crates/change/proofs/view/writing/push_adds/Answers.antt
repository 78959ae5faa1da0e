use Rattle.std.proofs.Common.{◌≡◌, ℕ, ◌+◌, ◌-◌, ◌<◌, true, List, ◌++◌, length, get_or, take, drop, vec_items, ap, ◌∙◌, arith, rules, leb-true}
use Rattle.change.specs.declared.span.AddAt.{AddAt}
use Rattle.change.specs.Bytes.{add_bytes}
use Rattle.change.specs.View.{add_in, add_inside, blank, cut}
use Rattle.change.specs.WellFormed.{is_line, is_add}
use Rattle.change.proofs.Every.{every_at}
use Rattle.change.proofs.Appended.{one_more_written, all_written}
use Rattle.change.proofs.Tests.{and_true}
use Rattle.change.proofs.view.writing.push_adds.Goals as goal

text_is_short : (bytes : List ℕ) (a : AddAt) → is_add (add_in bytes a) ≡ true → length (take (a.text.start + a.text.len - a.text.start) (drop a.text.start bytes)) < 256
text_is_short bytes a h =
    let text = (and_true (is_line a.before.0) _ (and_true (is_line a.after.0) _ h).1).1 in
    let short = leb-true (length (cut bytes a.text)) 120 (and_true _ _ text).0 in
    let same : a.text.start + a.text.len - a.text.start ≡ a.text.len = omega arith in
    rw same (omega arith)

pub overflow_add-end : goal.overflow_add-end
overflow_add-end c =
    let fits = leb-true _ _ (every_at (add_inside c.args.bytes.now) c.args.adds.now c.loop-add.add-index blank c.requires.inside (omega arith)) in
    search rules

pub slice_bounds-push_add-end : goal.slice_bounds-push_add-end
slice_bounds-push_add-end c =
    let fits = leb-true _ _ (every_at (add_inside c.args.bytes.now) c.args.adds.now c.loop-add.add-index blank c.requires.inside (omega arith)) in
    search rules

pub push_add-requires : goal.push_add-requires
push_add-requires c =
    text_is_short c.args.bytes.now (get_or c.args.adds.now c.loop-add.add-index blank)
    (every_at (λ a. is_add (add_in c.args.bytes.now a)) c.args.adds.now c.loop-add.add-index blank c.requires.formed (omega arith))

pub loop-add-preserved : goal.loop-add-preserved
loop-add-preserved c =
    let bytes = c.args.bytes.now in
    let add = get_or c.args.adds.now c.loop-add.add-index blank in
    let same : add.text.start + add.text.len - add.text.start ≡ add.text.len = omega arith in
    one_more_written (λ a. add_bytes (add_in bytes a)) _ c.args.adds.now c.loop-add.add-index _ c.loop-add.invariant blank _ (omega arith)
    (c.in_ok-push_add.ensures
    ∙ ap (λ n. vec_items c.loop-add.out ++ add_bytes (record { after = add.after.0; before = add.before.0; text = take n (drop add.text.start bytes) })) same)

pub returns : goal.returns
returns c = all_written (λ a. add_bytes (add_in c.args.bytes.now a)) _ c.args.adds.now c.loop-add.add-index _ c.loop-add.invariant _ (omega arith) c.in_ok-push.ensures.items
