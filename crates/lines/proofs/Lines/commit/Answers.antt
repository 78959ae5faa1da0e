-- What the slots are marked with is what was prepared, and the start and the end keep theirs.
use Rattle.std.proofs.Common.{ℕ, List, length, sym, ap, ◌∙◌, subst, arith, slice_index_or}
use Rattle.std.proofs.lemmas.List.{with_items_is}
use Rattle.table.specs.Held.{held}
use Rattle.lines.specs.Numbers.{marked}
use Rattle.lines.specs.Lines.{numbers_of, Agrees}
use Rattle.lines.proofs.Marks.{length_marked, used_stays}
use Rattle.lines.proofs.Lines.commit.Goals as goal

pub invariant_of-self : goal.invariant_of-self
invariant_of-self c =
    let l = c.args.self.now in
    let numbers_are = with_items_is l.numbers c.mark.new.numbers (omega arith) ∙ c.mark.ensures ∙ ap (λ (ns : List ℕ). marked ns c.args.first c.args.slots.now) c.as_mut_slice.ensures.value in
    record {
      size = ap length numbers_are ∙ length_marked (numbers_of l) c.args.slots.now c.args.first ∙ l.size;
      start = ap (λ ns. slice_index_or ns 0 0) numbers_are ∙ used_stays (numbers_of l) c.args.slots.now c.args.first c.requires.free 0 0 l.start (λ e. omega arith);
      end = ap (λ ns. slice_index_or ns 1 0) numbers_are ∙ used_stays (numbers_of l) c.args.slots.now c.args.first c.requires.free 1 1 l.end (λ e. omega arith);
    }

pub returns : goal.returns
returns c =
    let l = c.args.self.now in
    let numbers_are = with_items_is l.numbers c.mark.new.numbers (omega arith) ∙ c.mark.ensures ∙ ap (λ (ns : List ℕ). marked ns c.args.first c.args.slots.now) c.as_mut_slice.ensures.value in
    record {
      slots = ap length numbers_are ∙ length_marked (numbers_of l) c.args.slots.now c.args.first;
      kept = λ Q prepared. subst (λ ns. Agrees (held l.table) ns Q) (sym numbers_are) prepared;
    }
