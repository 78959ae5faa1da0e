-- The next of several new lines, put into a free slot: when it is refused, and what the lines are then. l are the lines before, and t the table after.
-- Assumes nothing.
use Rattle.std.proofs.Common.{◌≡◌, ℕ, ◌+◌, ◌<◌, ◌≤◌, true, false, List, [], ◌∷◌, ◌++◌, length, get_or, drop, Some, None, sym, ap, ◌∙◌, subst, arith}
use Rattle.std.proofs.lemmas.Bool.Decides.{nat_tests}
use Rattle.order.specs.Order.{Put}
use Rattle.order.specs.Table.{step, bef}
use Rattle.order.specs.Good.{Good}
use Rattle.table.specs.Cells.{at}
use Rattle.table.specs.Edits.{Same}
use Rattle.table.specs.Held as table
use Rattle.table.specs.Held.{held}
use Rattle.table.specs.Puts.{put_of}
use Rattle.table.specs.Slots.{may_put}
use Rattle.lines.specs.declared.Lines.{Lines}
use Rattle.lines.specs.Numbers.{no_line, free_in, Used, Finds, AllBefore, Chosen, marked}
use Rattle.lines.specs.Lines.{numbers_of, Agrees, Prepared, Unmoved}
use Rattle.lines.specs.Adding.{PutInto}
use Rattle.lines.proofs.Marks.{length_marked, marked_push}
use Rattle.lines.proofs.Agreeing.{absent_before_none, none_before_absent, not_found_is_absent, order_of_found}
use Rattle.lines.proofs.Coming.{agrees_with_one_more}
use Rattle.lines.proofs.Choosing.{later_stays_free}

module _ (l : Lines) (first : ℕ) (slots : List ℕ) (u v : ℕ) where
  pub first_not_found : Finds (marked (numbers_of l) first slots) u None → (Q : List Put) → Prepared l first slots Q → Good Q → bef Q u v ≡ false
  first_not_found none Q prepared good = absent_before_none Q u v good (not_found_is_absent prepared u none)

  pub second_not_found : Finds (marked (numbers_of l) first slots) v None → (Q : List Put) → Prepared l first slots Q → Good Q → bef Q u v ≡ false
  second_not_found none Q prepared good = none_before_absent Q u v good (not_found_is_absent prepared v none)

-- The slots that one add is about: x is the first free one from `from` on, and a and b are those of the lines u and v.
pub record Found (ns : List ℕ) (first from : ℕ) (slots : List ℕ) (x a b u v : ℕ) : Type 0 where
  pub behind : from ≤ x
  pub within : x < length ns
  pub free : get_or ns x 0 ≡ no_line
  pub rest : free_in (drop from ns) ≡ 1 + free_in (drop (x + 1) ns)
  pub upper : Finds (marked ns first slots) u (Some a)
  pub lower : Finds (marked ns first slots) v (Some b)

-- the same of numbers that were read from the lines
pub found_as_read :
    {first from x a b u v : ℕ} {slots : List ℕ} (read ns : List ℕ) → read ≡ ns → from ≤ x → x < length read → get_or read x 0 ≡ no_line → free_in (drop from read) ≡ 1 + free_in (drop (x + 1) read) →
    Finds (marked read first slots) u (Some a) → Finds (marked read first slots) v (Some b) → Found ns first from slots x a b u v
found_as_read {first} {from} {x} {a} {b} {u} {v} {slots} read ns e behind within is_free rest upper lower =
    subst (λ numbers. Found numbers first from slots x a b u v) e (record { behind = behind; within = within; free = is_free; rest = rest; upper = upper; lower = lower })

module _ (l : Lines) {first from x a b u v : ℕ} {slots : List ℕ}
    (above : no_line < first) (chosen : Chosen (numbers_of l) slots) (low : (2 ≤ from) × AllBefore slots from)
    (found : Found (numbers_of l) first from slots x a b u v) where
  stays_free : get_or (marked (numbers_of l) first slots) x 0 ≡ no_line
  stays_free = later_stays_free chosen first from x low.1 found.behind found.free

  not_x : (i : ℕ) → Used (marked (numbers_of l) first slots) i → x ≡ i → ⊥
  not_x i used e = used.1 (ap (λ k. get_or (marked (numbers_of l) first slots) k 0) (sym e) ∙ stays_free)

  -- The slot may be put between the two exactly if they stand in this order.
  may_put_lem : may_put (held l.table) l.table.slots x a b ≡ held l.table a b
  may_put_lem =
      let not_a = not_x a found.upper.0 in
      let not_b = not_x b found.lower.0 in
      let low_x : 2 ≤ x = omega arith in
      let high_x : x < l.table.slots = omega (arith, found.within, l.size) in
      grind (arith, nat_tests)

  order_of_two : (Q : List Put) → Prepared l first slots Q → may_put (held l.table) l.table.slots x a b ≡ bef Q u v
  order_of_two Q prepared = may_put_lem ∙ order_of_found prepared u v a b found.upper found.lower

  pub refused_out_of_order : false ≡ may_put (held l.table) l.table.slots x a b → (Q : List Put) → Prepared l first slots Q → Good Q → bef Q u v ≡ false
  refused_out_of_order e Q prepared good = sym (e ∙ order_of_two Q prepared)

  module _ (l' : Lines) (same : numbers_of l' ≡ numbers_of l) where
    pub unmoved_if_refused : table.Kept l.table l'.table → l'.table.bits.now ≡ l.table.bits.now → Unmoved l l'
    unmoved_if_refused kept e = record {
      numbers = same;
      order = λ i j _ _. ap (λ s. at l'.table.bits.now s i j) kept.slots ∙ ap (λ bits. at bits l.table.slots i j) e;
    }

    module _ (stepped : Same (held l'.table) (step (held l.table) (put_of x a b))) where
      not_free : (i : ℕ) → Used (numbers_of l) i → i ≡ x → ⊥
      not_free i used e = used.1 (ap (λ k. get_or (numbers_of l) k 0) e ∙ found.free)

      pub unmoved_if_put : Unmoved l l'
      unmoved_if_put = record {
        numbers = same;
        order = λ i j used_i used_j. let not_i = not_free i used_i in let not_j = not_free j used_j in stepped i j ∙ grind (arith, nat_tests);
      }

      abbrev p : Put
      p = record { line = first + length slots; after = u; before = v }

      pub put_into : true ≡ may_put (held l.table) l.table.slots x a b → PutInto l l' first slots from p x
      put_into may = record {
        behind = found.behind;
        within = found.within;
        free = found.free;
        rest = found.rest;
        order = λ Q prepared good. sym (may ∙ order_of_two Q prepared);
        prepared = λ Q prepared new. subst (λ ns. Agrees (held l'.table) ns (p ∷ Q)) (sym (ap (λ ns. marked ns first (slots ++ x ∷ [])) same ∙ marked_push (numbers_of l) slots first x))
            (agrees_with_one_more (held l.table) (held l'.table) (marked (numbers_of l) first slots) Q x a b p prepared
            (subst (λ n. x < n) (sym (length_marked (numbers_of l) slots first)) found.within) stays_free (λ e. omega arith) new found.upper found.lower stepped);
      }
