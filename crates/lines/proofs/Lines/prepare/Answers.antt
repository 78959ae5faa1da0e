-- One add after the other: where one stands out of order, the change does.
use Rattle.std.proofs.Common.{◌≡◌, ℕ, ◌+◌, List, [], ◌∷◌, ◌++◌, length, get_or, Some, None, sym, ◌∙◌, subst, arith, rules}
use Rattle.std.proofs.lemmas.Bool.{cond-true, lt-ltb}
use Rattle.change.specs.Few.{listed}
use Rattle.change.specs.View.{no_add}
use Rattle.lines.specs.Adding.{NextPut}
use Rattle.lines.proofs.Preparing.{Progress, unmoved_keeps, progress_none, put_of_add, refused_is_out_of_order, unmoved_trans, progress_more, all_in_order, all_prepared, all_free}
use Rattle.lines.proofs.Lines.prepare.Goals as goal

pub loop-add-init : goal.loop-add-init
loop-add-init c = (
  c.new-slots.ensures.count,
  rw c.new-slots.ensures.items (progress_none c.args.self.now c.args.first c.args.adds.now c.requires.room),
)

pub returns-in_err-slot : goal.returns-in_err-slot
returns-in_err-slot c =
    let l₀ = c.args.self.now in
    let l = c.loop-add.self in
    let l' = c.put_next.new.self in
    let progress = c.loop-add.invariant.1 in
    let done = c.in_err-slot.ensures in
    let add = get_or c.args.adds.now c.loop-add.add-index no_add in
    let none = subst (λ (slots : List ℕ). NextPut l l' c.args.first slots c.loop-add.from (put_of_add (c.args.first + length slots) add) None) c.as_slice.ensures done.put in
    let unmoved = unmoved_trans l₀ l l' no_add progress c.loop-add-test.true done.unmoved in
    rw c.from_residual.ensures (record {
      unmoved = unmoved;
      kept = unmoved_keeps l₀ l' unmoved;
      answer = refused_is_out_of_order l₀ l l' no_add progress c.loop-add-test.true none;
      free = tt;
      prepared = tt;
    })

pub loop-add-preserved : goal.loop-add-preserved
loop-add-preserved c =
    let l₀ = c.args.self.now in
    let l = c.loop-add.self in
    let l' = c.put_next.new.self in
    let x = c.in_ok-slot.slot in
    let done = c.in_ok-slot.ensures in
    let add = get_or c.args.adds.now c.loop-add.add-index no_add in
    let put = subst (λ (slots : List ℕ). NextPut l l' c.args.first slots c.loop-add.from (put_of_add (c.args.first + length slots) add) (Some x)) c.as_slice.ensures done.put in
    let pushed : listed c.push.new.self ≡ listed c.loop-add.slots ++ x ∷ [] =
    c.push.ensures.items ∙ cond-true c.push.result _ _ (c.push.ensures.test ∙ lt-ltb _ 64 (omega arith)) in (
      search rules,
      subst (λ (slots : List ℕ). Progress l₀ l' c.args.first c.args.adds.now (c.loop-add.add-index + 1) slots (x + 1)) (sym pushed)
          (progress_more l₀ l l' no_add c.loop-add.invariant.1 c.loop-add-test.true x c.requires.above done.unmoved put),
    )

pub returns : goal.returns
returns c =
    let l₀ = c.args.self.now in
    let l = c.loop-add.self in
    let progress = c.loop-add.invariant.1 in
    record {
      unmoved = progress.unmoved;
      kept = unmoved_keeps l₀ l progress.unmoved;
      answer = all_in_order l₀ l progress c.loop-add-test.false;
      free = (search rules, all_free l₀ l progress c.loop-add-test.false);
      prepared = all_prepared l₀ l progress c.loop-add-test.false;
    }
