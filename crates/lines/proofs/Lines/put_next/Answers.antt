-- A line that isn't found stands nowhere; two that are found stand in order where their slots do.
use Rattle.std.proofs.Common.{ℕ, List, None, refl, subst}
use Rattle.lines.specs.Numbers.{Finds, marked}
use Rattle.lines.proofs.NextPut.{found_as_read, first_not_found, second_not_found, refused_out_of_order, unmoved_if_refused, unmoved_if_put, put_into}
use Rattle.lines.proofs.Lines.put_next.Goals as goal

pub returns-in_err-a : goal.returns-in_err-a
returns-in_err-a c =
    let none = subst (λ (ns : List ℕ). Finds (marked ns c.args.first c.args.chosen.now) c.args.add.now.after.0 None) c.as_slice-numbers.ensures.value c.in_err-a.ensures in
    rw c.from_residual.ensures (record {
      unmoved = record { numbers = refl; order = λ _ _ _ _. refl };
      put = first_not_found c.args.self.now c.args.first c.args.chosen.now _ _ none;
    })

pub returns-in_err-b : goal.returns-in_err-b
returns-in_err-b c =
    let none = subst (λ (ns : List ℕ). Finds (marked ns c.args.first c.args.chosen.now) c.args.add.now.before.0 None) c.as_slice-numbers.ensures.value c.in_err-b.ensures in
    rw c.from_residual-in_err-b.ensures (record {
      unmoved = record { numbers = refl; order = λ _ _ _ _. refl };
      put = second_not_found c.args.self.now c.args.first c.args.chosen.now _ _ none;
    })

pub returns-then-not-between : goal.returns-then-not-between
returns-then-not-between c =
    let l = c.args.self.now in
    let free_slot = c.next_free-slot.ensures in
    let done = c.if-not-between.ensures in
    let found =
    found_as_read _ _ c.as_slice-numbers.ensures.value free_slot.behind free_slot.within free_slot.free free_slot.rest c.in_ok-a.ensures c.in_ok-b.ensures in
    record {
      unmoved = unmoved_if_refused l c.requires.above c.requires.chosen c.requires.behind found _ refl done.kept (done.refused refl);
      put = refused_out_of_order l c.requires.above c.requires.chosen c.requires.behind found done.answer;
    }

pub returns : goal.returns
returns c =
    let l = c.args.self.now in
    let free_slot = c.next_free-slot.ensures in
    let done = c.if-not-between.ensures in
    let found =
    found_as_read _ _ c.as_slice-numbers.ensures.value free_slot.behind free_slot.within free_slot.free free_slot.rest c.in_ok-a.ensures c.in_ok-b.ensures in
    record {
      unmoved = unmoved_if_put l c.requires.above c.requires.chosen c.requires.behind found _ refl (done.stepped refl);
      put = put_into l c.requires.above c.requires.chosen c.requires.behind found _ refl (done.stepped refl) done.answer;
    }
