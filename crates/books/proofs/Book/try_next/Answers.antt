use Rattle.std.proofs.Common.{◌≡◌, vec_items, sym, ap, ◌∙◌, subst}
use Rattle.std.proofs.lemmas.Result.{err_from_is_err_and}
use Rattle.change.specs.Viewed.{viewed}
use Rattle.history.specs.Sane.{Orderly}
use Rattle.history.specs.Taking.{event, admitted}
use Rattle.history.proofs.Lowest.{next_waits}
use Rattle.books.specs.Sane.{model_of}
use Rattle.books.proofs.Back.{with_changes}
use Rattle.books.proofs.Trying.{admission_is, next_is_new, tried_orderly, parts_are_tried, the_next, waits_no_more_lem}
use Rattle.books.proofs.Book.try_next.Goals as goal

pub admit-requires : goal.admit-requires
admit-requires c =
    let B = model_of c.args.self.now in
    let d = viewed c.in-Some-get.view in
    let p = c.in-Some.place in
    let here = c.in-Some-get.ensures in
    let next = the_next B p d c.in-Some.ensures here in
    record { ready = (next_waits B d next).1; new = next_is_new B c.requires.orderly d next }

pub returns-in_err-outcome : goal.returns-in_err-outcome
returns-in_err-outcome c =
    let B = model_of c.args.self.now in
    let d = viewed c.in-Some-get.view in
    let next = the_next B c.in-Some.place d c.in-Some.ensures c.in-Some-get.ensures in
    let (taken, same, pushed) = c.in_err-outcome.ensures.admitted in
    let as_was = ap (with_changes B) same in
    let exit = err_from_is_err_and c.from_residual.result c.from_residual.ensures.1 in
    record {
      sane = record { waiting = c.requires.waiting; orderly = subst Orderly (sym as_was) c.requires.orderly };
      tried = rw exit.1 (d, next, sym (admission_is B d) ∙ taken, as_was);
    }

pub returns : goal.returns
returns c =
    let B = model_of c.args.self.now in
    let d = viewed c.in-Some-get.view in
    let p = c.in-Some.place in
    let here = c.in-Some-get.ensures in
    let next = the_next B p d c.in-Some.ensures here in
    let (answer, came) = c.in_ok-outcome.ensures.admitted in
    let o = c.in_ok-outcome.outcome in
    let outcome : o ≡ admitted B d = answer ∙ admission_is B d in
    let gone = waits_no_more_lem B.waiting p d here c.requires.orderly.distinct vec_items c.remove.result c.remove.ensures.bytes _ c.remove.ensures.waits in
    let after = parts_are_tried B c.requires.orderly d next o outcome _ c.highest_after-self.ensures _ came _ gone in
    record {
      sane = record { waiting = c.remove.ensures.whole; orderly = subst Orderly (sym after) (tried_orderly B c.requires.orderly d next) };
      tried = (d, next, ap (event d.name) outcome, after);
    }
