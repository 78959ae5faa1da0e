use Rattle.std.proofs.Common.{◌<◌, length, vec_items, sym, refl, ap, ◌∙◌, arith}
use Rattle.letters.specs.NamesView.{names_in}
use Rattle.store.specs.Kept.{kept}
use Rattle.verdict.specs.FromNeeds.{is_among}
use Rattle.outgoing.proofs.Gathering.{lacks_one_more, lacks_no_more}
use Rattle.outgoing.proofs.lacking.all_lacking.Goals as goal
use Rattle.outgoing.proofs.lacking.all_lacking.Goals.{then-not-has+in_ok-push, else-not-has}

pub loop-place-preserved : goal.loop-place-preserved
loop-place-preserved c =
    let K = kept c.args.store.now in
    let has = names_in c.args.names.now in
    let i = c.loop-place.place in
    let less : i < length K = omega arith in
    let so_far = vec_items c.loop-place.lacking in
    let more = vec_items c.if-not-has.lacking in
    let tells = ap (λ n. is_among n has) (sym c.name_at-name.ensures) ∙ sym c.has.ensures in
    elim c.if-not-has.branch [
      | then-not-has+in_ok-push w ↦
          lacks_one_more has K i less so_far more c.loop-place.invariant (tells ∙ w.if-not-has.true) _ refl (record { within = less; name = c.name_at-name.ensures; needs = w.needs_at.ensures })
          (ap vec_items w.lacking-is ∙ w.in_ok-push.ensures.items)
      | else-not-has w ↦ lacks_no_more has K i less so_far more c.loop-place.invariant (tells ∙ w.if-not-has.false) (ap vec_items w.lacking-is)
    ]
