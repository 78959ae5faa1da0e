-- Each exit: what the tests say.
use Rattle.std.proofs.Common.{◌≡◌, true, false, ◌∷◌, sym, refl, ◌∙◌, subst, arith}
use Rattle.change.specs.Few.{listed}
use Rattle.change.specs.Viewed.{viewed}
use Rattle.change.proofs.Limits.{adds_most}
use Rattle.order.specs.Table.{onto, placed}
use Rattle.lines.specs.Lines.{Prepared}
use Rattle.verdict.specs.Verdict.{is_related, is_ordered}
use Rattle.shelf.specs.Sane.{changes}
use Rattle.shelf.proofs.Admission.{Asked, outcome_by_tests, count_of_adds, may_add, puts_are, ordered_as_answered}
use Rattle.shelf.proofs.Keeping.{free_slots, sane_still}
use Rattle.shelf.proofs.Sure.{sane}
use Rattle.shelf.proofs.Shelf.make_ready.Goals as goal
use Rattle.shelf.proofs.Shelf.make_ready.Goals.{After-as_slice, After-has_room}

asked_at : (c : After-as_slice) → Asked c.args.self.now c.args.view.now c.line.result.0 c.as_slice.result.now
asked_at c = record {
  ready = c.requires.ready;
  new = c.requires.new;
  is_first = c.line.ensures;
  are_adds = c.as_slice.ensures;
}

related_at : (c : After-as_slice) → is_related (changes c.args.self.now) (viewed c.args.view.now) ≡ true
related_at c = sym c.related.ensures ∙ c.if-not-related.false

ordered_at : (c : After-has_room) (asked : Asked c.args.self.now c.args.view.now c.line.result.0 c.as_slice.result.now) → is_ordered (changes c.args.self.now) (viewed c.args.view.now) ≡ true
ordered_at c asked = ordered_as_answered asked true c.in-Some.ensures.answer

pub invariant_of-self : goal.invariant_of-self
invariant_of-self c = record { sane = ∣ sane_still c.args.self.now c.args.self.now.store c.prepare.new.self refl c.prepare.ensures.kept c.prepare.ensures.unmoved ∣₁ }

pub prepare-requires-clause-room : goal.prepare-requires-clause-room
prepare-requires-clause-room c =
    let count = count_of_adds (asked_at c) in
    let most = adds_most (viewed c.args.view.now) c.args.view.now.well in
    omega (arith, free_slots c.args.self.now, (sane c.args.self.now).few_lines)

pub returns-in_default-clause-refused : goal.returns-in_default-clause-refused
returns-in_default-clause-refused c =
    let at = (goal.at.returns-in_default-clause-refused c).After-as_slice in
    outcome_by_tests (changes c.args.self.now) (viewed c.args.view.now) true false _ (related_at at) (ordered_as_answered (asked_at at) false c.in_default.ensures.answer) refl

pub returns-then-not-has_room-clause-refused : goal.returns-then-not-has_room-clause-refused
returns-then-not-has_room-clause-refused c =
    let at = goal.at.returns-then-not-has_room-clause-refused c in
    outcome_by_tests (changes c.args.self.now) (viewed c.args.view.now) true true false (related_at at.After-as_slice) (ordered_at at.After-has_room (asked_at at.After-as_slice)) (sym c.has_room.ensures ∙ c.if-not-has_room.true)

pub returns-clause-ready : goal.returns-clause-ready
returns-clause-ready c =
    let s = c.args.self.now in
    let d = viewed c.args.view.now in
    let at = goal.at.returns-clause-ready c in
    let asked = asked_at at.After-as_slice in
    let (as_many, are_free) = c.in-Some.ensures.free in
    let prepared = (c.in-Some.ensures.prepared (placed (changes s)) (may_add asked)).1 in
    record {
      related = related_at at.After-as_slice;
      ordered = ordered_at at.After-has_room asked;
      room = sym c.has_room.ensures ∙ c.if-not-has_room.false;
      many = as_many ∙ count_of_adds asked;
      free = are_free;
      prepared = subst (λ u. Prepared c.prepare.new.self u (listed c.in-Some.slots) (placed (d ∷ changes s))) c.line.ensures
          (subst (λ ps. Prepared c.prepare.new.self c.line.result.0 (listed c.in-Some.slots) (onto (placed (changes s)) ps)) (puts_are asked) prepared);
    }
