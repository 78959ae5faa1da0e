use Rattle.std.proofs.Common.{◌≡◌, [], ◌∷◌, ◌++◌, vec_items, sym, ap, ◌∙◌, arith}
use Rattle.std.proofs.lemmas.List.Sorted.{IsNonDecreasingBy-from_sort}
use Rattle.change.specs.Viewed.{viewed}
use Rattle.store.specs.Kept.{kept}
use Rattle.blocks.specs.Sheet.{killed}
use Rattle.display.specs.Added.{spared}
use Rattle.display.proofs.Backwards.{sheet_from, none_from_end, one_further, same_further, killed_more}
use Rattle.display.proofs.Spared.{spared_shuffled}
use Rattle.display.proofs.killed.killed_lines.Goals as goal

pub loop-place-init : goal.loop-place-init
loop-place-init c = c.new-lines.ensures.items ∙ sym (ap killed (none_from_end c.args.sheet.0 (kept c.args.store.now) c.len-place.result (omega arith)))

pub loop-place-preserved-in-Continue-1 : goal.loop-place-preserved-in-Continue-1
loop-place-preserved-in-Continue-1 c =
    let n = c.args.sheet.0 in
    let cs = kept c.args.store.now in
    let place = c.loop-place.place in
    let change = viewed c.in-Some.view in
    c.in_ok-extend_from_slice.ensures.items
    ∙ (λ i. c.loop-place.invariant i ++ c.as_slice.ensures i)
    ∙ sym (killed_more (sheet_from n cs place) _ change (one_further n cs place (change ∷ []) c.loop-place-test.true c.in-Some.ensures))

pub loop-place-preserved : goal.loop-place-preserved
loop-place-preserved c =
    c.loop-place.invariant ∙ sym (ap killed (same_further c.args.sheet.0 (kept c.args.store.now) c.loop-place.place c.loop-place-test.true c.in_default.ensures))

pub returns-clause-rising : goal.returns-clause-rising
returns-clause-rising c = IsNonDecreasingBy-from_sort (λ x. x) (vec_items c.sort_unstable.new.self) c.sort_unstable.ensures.sorted

pub returns-clause-spared : goal.returns-clause-spared
returns-clause-spared c u =
    let end : c.loop-place.place ≡ 0 = omega arith in
    let all = c.loop-place.invariant ∙ ap (λ i. killed (sheet_from c.args.sheet.0 (kept c.args.store.now) i)) end in
    spared_shuffled (vec_items c.loop-place.lines) (vec_items c.sort_unstable.new.self) c.sort_unstable.ensures.permutation u ∙ ap (λ ks. spared ks u) all
