-- What was made ready comes in; a store with room for every book has room for it.
use Rattle.std.proofs.Common.{sym, refl, subst}
use Rattle.std.proofs.lemmas.Bool.{false≢true}
use Rattle.change.specs.Viewed.{viewed}
use Rattle.shelf.specs.Admitting.{ReadyFor}
use Rattle.shelf.specs.Roomy.{Roomy}
use Rattle.shelf.proofs.Admission.{asked_still, sane_after}
use Rattle.shelf.proofs.Keeping.{not_pushed, roomy_still, sane_in}
use Rattle.shelf.proofs.Room.{store_has_room}
use Rattle.shelf.proofs.Shelf.admit.Goals as goal

pub invariant_of-self : goal.invariant_of-self
invariant_of-self c =
    let m = c.make_ready.new.self in
    record { sane = ∣ sane_in m c.push.new.self (not_pushed m.store c.push.new.self (viewed c.args.view.now) c.in_err-push.field-0.0 c.in_err-push.ensures.pushed) ∣₁ }

pub returns-in_err-push-clause-in_room : goal.returns-in_err-push-clause-in_room
returns-in_err-push-clause-in_room c roomy =
    let m = c.make_ready.new.self in
    let v = c.args.view.now in
    let room = store_has_room m (subst Roomy (sym c.make_ready.ensures.store) roomy) (viewed v) v.well c.in-Ok.ensures.ready.room in
    absurd (false≢true (c.in_err-push.ensures.in_room room).0)

pub invariant_of-self-2 : goal.invariant_of-self-2
invariant_of-self-2 c =
    let m = c.make_ready.new.self in
    let v = c.args.view.now in
    let asked = asked_still c.args.self.now m v c.line.result.0 c.make_ready.ensures.store c.requires.ready c.requires.new c.line.ensures in
    let ready = subst (λ l. ReadyFor m (viewed v) l) (sym c.as_slice.ensures) c.in-Ok.ensures.ready in
    record { sane = ∣ sane_after asked ready c.push.new.self c.commit.new.self c.in_ok-push.ensures.pushed c.commit.ensures.kept c.commit.ensures.slots ∣₁ }

pub returns-clause-in_room : goal.returns-clause-in_room
returns-clause-in_room c roomy =
    let m = c.make_ready.new.self in
    let v = c.args.view.now in
    let still = subst Roomy (sym c.make_ready.ensures.store) roomy in
    (refl, roomy_still m.store c.push.new.self (c.in_ok-push.ensures.in_room (store_has_room m still (viewed v) v.well c.in-Ok.ensures.ready.room)).1 still)
