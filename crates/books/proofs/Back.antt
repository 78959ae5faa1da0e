-- That a book stays orderly when a change is taken back, and that the shelf's answer gives the book after.
-- with_changes B L: the book B with the changes L.
-- Assumes nothing.
use Rattle.std.proofs.Common.{◌≡◌, ℕ, Bool, true, false, cond, not, eqb, List, length, refl, ap, ◌∙◌, subst, arith}
use Rattle.std.proofs.lemmas.List.Filters.{sum_by-filter_both}
use Rattle.std.proofs.lemmas.Bool.{ne_eqb, not_from_false}
use Rattle.change.specs.Membership.{In}
use Rattle.change.specs.Model.{Change}
use Rattle.order.specs.Theorems.{without, NoneNeeds}
use Rattle.order.proofs.ClosedPart.{listed_kept}
use Rattle.history.specs.Book.{Book}
use Rattle.history.specs.Taking.{is_free, take_back, taken_back}
use Rattle.history.specs.Sane.{Orderly}
use Rattle.history.proofs.Back.{back_or_as_was}
use Rattle.history.proofs.Names.{has_name_more, kept_within, length_kept}

abbrev pub with_changes : Book → List Change → Book
with_changes B L = record { plant = B.plant; highest = B.highest; changes = L; waiting = B.waiting }

module _ (B : Book) (o : Orderly B) (n : ℕ) where
  abbrev others : Change → Bool
  others c = not (eqb c.name n)

  without_orderly : NoneNeeds n B.changes → Orderly (taken_back B n)
  without_orderly none = record {
    listed = listed_kept others B.changes o.listed (λ c d i j t k. not_from_false _ (ne_eqb d.name n (λ e. none c i (subst (λ m. In m c.needs) e k))));
    formed = o.formed;
    distinct = o.distinct;
    outside = λ c i h. o.outside c i (has_name_more (without n B.changes) B.changes (kept_within others B.changes) c.name h);
    few_changes = omega (arith, length_kept others B.changes);
    few_lines = omega (arith, sum_by-filter_both others (λ c. not (others c)) (λ c. refl) (λ c. length c.adds) B.changes);
    few_wait = o.few_wait;
    counted = λ c i. o.counted c (kept_within others B.changes c i);
  }

  pub back_orderly : Orderly (take_back B n)
  back_orderly = back_or_as_was B n Orderly o without_orderly

  pub back_as_answered : (r : Bool) → r ≡ is_free B n → (L : List Change) → L ≡ cond r (without n B.changes) B.changes → with_changes B L ≡ take_back B n
  back_as_answered r answer L rest = ap (with_changes B) rest ∙ go r ∙ ap (λ b. cond b (taken_back B n) B) answer
    where
      go : (b : Bool) → with_changes B (cond b (without n B.changes) B.changes) ≡ cond b (taken_back B n) B
      go true = refl
      go false = refl
