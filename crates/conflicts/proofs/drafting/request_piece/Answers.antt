use Rattle.std.proofs.Common.{◌≡◌, get_or, ap, ◌∙◌}
use Rattle.std.proofs.lemmas.Option.{MatchOption-at_some}
use Rattle.std.proofs.lemmas.Bool.{some_since}
use Rattle.change.specs.Membership.{In}
use Rattle.change.specs.WellFormed.{is_text}
use Rattle.order.proofs.Members.{in_get_or}
use Rattle.drafts.specs.Asked.{asked_by}
use Rattle.conflicts.specs.Drafting.{numbers_in, text_of_line}
use Rattle.conflicts.proofs.Drafted.{drafting_begins, drafting_more, drafting_ends}
use Rattle.conflicts.proofs.drafting.request_piece.Goals as goal

pub loop-place-init : goal.loop-place-init
loop-place-init c =
    drafting_begins (text_of_line c.args.conflict.now) c.args.conflict.now.ends.before.0 c.args.after.0 c.args.name.0 c.args.piece.now c.args.sheet.0 (asked_by c.new-request.result) c.new-request.ensures

pub unwrap-text-requires : goal.unwrap-text-requires
unwrap-text-requires c =
    some_since c.text.result _ _ c.text.ensures (λ none. none (c.requires.known _ (in_get_or c.args.piece.now c.loop-place.place 0 c.loop-place-test.true)))

pub add_line-requires : goal.add_line-requires
add_line-requires c =
    let conflict = c.args.conflict.now in
    let u = get_or c.args.piece.now c.loop-place.place 0 in
    ap is_text (MatchOption-at_some (In u (numbers_in conflict) → ⊥) (λ t. t.now ≡ text_of_line conflict u) c.unwrap-text.result c.unwrap-text.ensures c.text.ensures)
    ∙ conflict.written u (c.requires.known u (in_get_or c.args.piece.now c.loop-place.place 0 c.loop-place-test.true))

pub loop-place-preserved : goal.loop-place-preserved
loop-place-preserved c =
    let conflict = c.args.conflict.now in
    drafting_more (text_of_line conflict) conflict.ends.before.0 c.args.after.0 c.args.name.0 c.args.piece.now c.args.sheet.0
    c.loop-place.place (asked_by c.loop-place.request) (asked_by c.add_line.new.self) (asked_by c.kill.new.self) c.loop-place.last.0 c.line-last.result.0 c.unwrap-text.result.now
    c.loop-place-test.true c.loop-place.invariant (MatchOption-at_some _ _ c.unwrap-text.result c.unwrap-text.ensures c.text.ensures)
    c.in_ok-add_line.ensures c.in_ok-kill.ensures c.line-last.ensures

pub returns : goal.returns
returns c =
    drafting_ends (text_of_line c.args.conflict.now) c.args.conflict.now.ends.before.0 c.args.after.0 c.args.name.0 c.args.piece.now c.args.sheet.0
    c.loop-place.place (asked_by c.loop-place.request) c.loop-place.last.0 c.loop-place-test.false c.loop-place.invariant
