use Rattle.std.proofs.Common.{◌≡◌, true, length, is_ok, vec_items, ap, ◌∙◌, rules}
use Rattle.std.proofs.lemmas.Result.{err_from_is_err_and}
use Rattle.std.proofs.lemmas.Bool.{and_from}
use Rattle.change.specs.declared.span.AddAt.{AddAt}
use Rattle.change.specs.WellFormed.{is_line}
use Rattle.drafts.proofs.Writing.{unused_bytes, with_it, stays_right}
use Rattle.drafts.proofs.request.Request.add_line.Goals as goal

pub invariant_of-self-2 : goal.invariant_of-self-2
invariant_of-self-2 c =
    let d = c.args.self.now in
    let after : is_line c.args.after.0 ≡ true = search rules in
    let before : is_line c.args.before.0 ≡ true = search rules in
    let add : AddAt = record { after = c.args.after; before = c.args.before; text = record { start = c.len.result; len = length c.args.text.now } } in
    let place = ap (λ n. record { start = n; len = length c.args.text.now }) (c.len.ensures ∙ d.texts.ok.0) in
    let (written, inside) =
    stays_right d.sheet.0 (vec_items d.texts) (vec_items c.extend_from_slice.new.self) c.args.text.now (vec_items d.adds) (vec_items c.push.new.self) (vec_items d.kills)
    d.written d.inside c.in_ok-extend_from_slice.ensures.items add place (is_ok c.push.result) c.push.ensures.items
    (and_from _ _ after (and_from _ _ before c.requires)) in
    record { written = written; inside = inside }

pub returns-in_err-push : goal.returns-in_err-push
returns-in_err-push c =
    let d = c.args.self.now in
    let exit = err_from_is_err_and c.from_residual-in_err-push.result c.from_residual-in_err-push.ensures.1 in
    rw exit.1
    (unused_bytes d.sheet.0 (vec_items d.texts) (vec_items c.extend_from_slice.new.self) c.args.text.now (vec_items d.adds) (vec_items c.push.new.self) (vec_items d.kills)
    d.written d.inside c.in_ok-extend_from_slice.ensures.items c.in_err-push.ensures.items)

pub returns : goal.returns
returns c =
    let d = c.args.self.now in
    let add : AddAt = record { after = c.args.after; before = c.args.before; text = record { start = c.len.result; len = length c.args.text.now } } in
    let place = ap (λ n. record { start = n; len = length c.args.text.now }) (c.len.ensures ∙ d.texts.ok.0) in
    with_it d.sheet.0 (vec_items d.texts) (vec_items c.extend_from_slice.new.self) c.args.text.now (vec_items d.adds) (vec_items c.push.new.self) (vec_items d.kills)
    d.written d.inside c.in_ok-extend_from_slice.ensures.items add place c.in_ok-push.ensures.items
