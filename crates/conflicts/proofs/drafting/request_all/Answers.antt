use Rattle.std.proofs.Common.{min, map, length, vec_items, sym, ap, ◌∙◌, subst}
use Rattle.std.proofs.lemmas.List.{map_push}
use Rattle.std.specs.Slice.Iter.{chunks_rest}
use Rattle.change.specs.Membership.{In}
use Rattle.order.proofs.Members.{in_left, in_right}
use Rattle.drafts.specs.Asked.{asked_by}
use Rattle.conflicts.specs.Drafting.{text_of_line}
use Rattle.conflicts.proofs.Drafted.{cutting_name, cutting_more, cutting_ends}
use Rattle.conflicts.proofs.drafting.request_all.Goals as goal

pub request_piece-requires-clause-known : goal.request_piece-requires-clause-known
request_piece-requires-clause-known c x i =
    c.requires.known x (c.loop-piece.invariant.known x (subst (In x) (sym c.in-Some.ensures.steps.1.0) (in_left c.in-Some.piece.now (chunks_rest c.next.new.self) x i)))

pub request_piece-requires-clause-named : goal.request_piece-requires-clause-named
request_piece-requires-clause-named c =
    let conflict = c.args.conflict.now in
    let rest = chunks_rest c.loop-piece.piece-iterator in
    let cut = c.in-Some.ensures.steps.1 in
    cutting_name (text_of_line conflict) conflict.ends.before.0 conflict.ends.after.0 c.args.next.0 c.args.order.now c.args.sheet.0
    rest c.in-Some.piece.now _ cut.0 (cut.1 ∙ ap (λ n. min n (length rest)) c.loop-piece.invariant.size) cut.2 _ _ _ c.loop-piece.invariant.cutting

pub line-after-requires-clause-name : goal.line-after-requires-clause-name
line-after-requires-clause-name c =
    let conflict = c.args.conflict.now in
    let rest = chunks_rest c.loop-piece.piece-iterator in
    let cut = c.in-Some.ensures.steps.1 in
    cutting_name (text_of_line conflict) conflict.ends.before.0 conflict.ends.after.0 c.args.next.0 c.args.order.now c.args.sheet.0
    rest c.in-Some.piece.now _ cut.0 (cut.1 ∙ ap (λ n. min n (length rest)) c.loop-piece.invariant.size) cut.2 _ _ _ c.loop-piece.invariant.cutting

pub loop-piece-preserved : goal.loop-piece-preserved
loop-piece-preserved c =
    let conflict = c.args.conflict.now in
    let rest = chunks_rest c.loop-piece.piece-iterator in
    let cut = c.in-Some.ensures.steps.1 in
    let rs = vec_items c.loop-piece.requests in
    let r = c.in_ok-request.request in
    let items = c.in_ok-push.ensures.items in
    record {
      size = c.in-Some.ensures.steps.0 ∙ c.loop-piece.invariant.size;
      known = λ x i. c.loop-piece.invariant.known x (subst (In x) (sym cut.0) (in_right c.in-Some.piece.now (chunks_rest c.next.new.self) x i));
      cutting =
          cutting_more (text_of_line conflict) conflict.ends.before.0 conflict.ends.after.0 c.args.next.0 c.args.order.now c.args.sheet.0
          rest c.in-Some.piece.now _ cut.0 (cut.1 ∙ ap (λ n. min n (length rest)) c.loop-piece.invariant.size) cut.2
          (map asked_by rs) (map asked_by (vec_items c.push.new.self)) (asked_by r) c.loop-piece.after.0 _ c.loop-piece.name.0 c.loop-piece.invariant.cutting
          c.in_ok-request.ensures (ap (map asked_by) items ∙ map_push asked_by rs r) c.line-after.ensures;
    }

pub returns : goal.returns
returns c =
    let conflict = c.args.conflict.now in
    cutting_ends (text_of_line conflict) conflict.ends.before.0 conflict.ends.after.0 c.args.next.0 c.args.order.now c.args.sheet.0
    (map asked_by (vec_items c.loop-piece.requests)) c.loop-piece.after.0 c.loop-piece.name.0 (chunks_rest c.loop-piece.piece-iterator) c.loop-piece.invariant.cutting c.in-None.ensures.steps.1.0
