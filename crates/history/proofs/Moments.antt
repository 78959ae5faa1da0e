-- That a book is orderly at every moment: after a change came in, waits, waits no more, or was taken back.
-- Assumes nothing.
use Rattle.std.proofs.Common.{◌≡◌, ℕ, ◌<◌, ◌≤◌, true, not, eqb, [], ◌∷◌, length, sym, ap, ◌∙◌, inl, inr, arith, length-append}
use Rattle.std.proofs.lemmas.List.Sums.{sum_by-cons}
use Rattle.std.proofs.lemmas.Bool.Decides.{nat_tests}
use Rattle.change.specs.Membership.{In}
use Rattle.change.specs.Model.{Change, count_of, plant_of}
use Rattle.change.specs.WellFormed.{well_formed}
use Rattle.order.specs.Names.{HasName}
use Rattle.order.specs.Fits.{Fits}
use Rattle.order.proofs.Members.{in_either}
use Rattle.history.specs.Book.{Book, wait_limit, counting, enter, wait, waits_no_more}
use Rattle.history.specs.Sane.{Orderly}
use Rattle.history.specs.Theorems.{New, Room}
use Rattle.history.proofs.Names.{kept_within, distinct_kept, distinct_push, length_kept}

pub counting_rises : (plant : ℕ) (c : Change) (n : ℕ) → n ≤ counting plant c n
counting_rises plant c n = grind (arith, nat_tests)

pub counting_counts : (plant : ℕ) (c : Change) (n : ℕ) → plant_of c.name ≡ plant → count_of c.name ≤ counting plant c n
counting_counts plant c n e = grind (arith, nat_tests)

module _ (B : Book) (o : Orderly B) where
  pub enter_orderly : (c : Change) → Fits B.changes c → (HasName B.waiting c.name → ⊥) → Room B c → Orderly (enter B c)
  enter_orderly c fits new (few, low) = record {
    listed = (fits, o.listed);
    formed = o.formed;
    distinct = o.distinct;
    outside = outside;
    few_changes = omega arith;
    few_lines = omega (arith, sum_by-cons (λ d. length d.adds) c B.changes);
    few_wait = o.few_wait;
    counted = counted;
  }
    where
      outside : (d : Change) → In d B.waiting → HasName (c ∷ B.changes) d.name → ⊥
      outside d i (x, inl e, f) = new (d, i, sym f ∙ ap (λ y. y.name) e)
      outside d i (x, inr j, f) = o.outside d i (x, j, f)

      counted : (d : Change) → In d (c ∷ B.changes) → plant_of d.name ≡ B.plant → count_of d.name ≤ counting B.plant c B.highest
      counted d (inl e) p = rw e (counting_counts B.plant c B.highest (rw e at p))
      counted d (inr i) p = omega (arith, o.counted d i p, counting_rises B.plant c B.highest)

  pub wait_orderly : (c : Change) → well_formed c ≡ true → New B c → length B.waiting < wait_limit → Orderly (wait B c)
  wait_orderly c formed (new, new_waits) few = record {
    listed = o.listed;
    formed = λ d i. elim (in_either B.waiting (c ∷ []) d i) [ inl j ↦ o.formed d j | inr (inl e) ↦ rw e formed | inr (inr none) ↦ absurd none ];
    distinct = distinct_push B.waiting c o.distinct new_waits;
    outside = λ d i. elim (in_either B.waiting (c ∷ []) d i) [ inl j ↦ o.outside d j | inr (inl e) ↦ rw e new | inr (inr none) ↦ absurd none ];
    few_changes = o.few_changes;
    few_lines = o.few_lines;
    few_wait = simp length-append (omega arith);
    counted = o.counted;
  }

  pub no_more_orderly : (n : ℕ) → Orderly (waits_no_more B n)
  no_more_orderly n = record {
    listed = o.listed;
    formed = λ d i. o.formed d (kept_within _ B.waiting d i);
    distinct = distinct_kept _ B.waiting o.distinct;
    outside = λ d i. o.outside d (kept_within _ B.waiting d i);
    few_changes = o.few_changes;
    few_lines = o.few_lines;
    few_wait = omega (arith, length_kept (λ c. not (eqb c.name n)) B.waiting);
    counted = o.counted;
  }
