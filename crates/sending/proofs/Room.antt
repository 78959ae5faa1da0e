-- Distinct changes that are all among others are no more than these, and add no more lines.
-- Assumes nothing.
use Rattle.std.proofs.Common.{ℕ, ◌+◌, ◌≤◌, Bool, not, eqb, List, [], ◌∷◌, length, sum_by, filter, refl, ap, inl, inr, arith}
use Rattle.std.proofs.lemmas.List.Filters.{length-filter_both, sum_by-filter_both}
use Rattle.std.proofs.lemmas.List.Sums.{sum_by-cons}
use Rattle.std.proofs.lemmas.Bool.{eq-eqb, ne_eqb, not_from_false}
use Rattle.change.specs.Membership.{In, Within}
use Rattle.change.specs.Model.{Change}
use Rattle.order.specs.Fits.{Listed}
use Rattle.order.specs.Theorems.{without}
use Rattle.order.proofs.Members.{kept_has}
use Rattle.history.specs.Book.{lines_of}
use Rattle.history.specs.Sane.{Distinct}
use Rattle.history.proofs.Names.{in_some}

pub listed_distinct : (L : List Change) → Listed L → Distinct L
listed_distinct [] l = tt
listed_distinct (c ∷ L) (f, l) = (λ (d, i, e). f.new d i e, listed_distinct L l)

in_sum : (f : Change → ℕ) (c : Change) (S : List Change) → In c S → f c ≤ sum_by f S
in_sum f c [] i = absurd i
in_sum f c (d ∷ S) (inl e) = omega (arith, sum_by-cons f d S, ap f e)
in_sum f c (d ∷ S) (inr i) = omega (arith, sum_by-cons f d S, in_sum f c S i)

module _ (c : Change) (U : List Change) (i : In c U) where
  abbrev same : Change → Bool
  same d = eqb d.name c.name

  abbrev other : Change → Bool
  other d = not (same d)

  is_same : In c (filter same U)
  is_same = kept_has same U c i (eq-eqb c.name c.name refl)

  without_shorter : length (without c.name U) + 1 ≤ length U
  without_shorter = omega (arith, length-filter_both same other (λ d. refl) U, in_some c (filter same U) is_same)

  without_less : (f : Change → ℕ) → sum_by f (without c.name U) + f c ≤ sum_by f U
  without_less f = omega (arith, sum_by-filter_both same other (λ d. refl) f U, in_sum f c (filter same U) is_same)

-- the others are among the others
rest_within : (c : Change) (S U : List Change) → Distinct (c ∷ S) → Within (c ∷ S) U → Within S (without c.name U)
rest_within c S U (new, _) w d i = kept_has _ U d (w d (inr i)) (not_from_false _ (ne_eqb _ _ (λ e. new (d, i, e))))

pub no_more_changes : (S U : List Change) → Distinct S → Within S U → length S ≤ length U
no_more_changes [] U d w = omega arith
no_more_changes (c ∷ S) U d w =
    omega (arith, no_more_changes S (without c.name U) d.1 (rest_within c S U d w), without_shorter c U (w c (inl refl)))

pub no_more_lines : (S U : List Change) → Distinct S → Within S U → lines_of S ≤ lines_of U
no_more_lines [] U d w = omega arith
no_more_lines (c ∷ S) U d w =
    let f : Change → ℕ = λ x. length x.adds in
    omega (arith, sum_by-cons f c S, no_more_lines S (without c.name U) d.1 (rest_within c S U d w), without_less c U (w c (inl refl)) f)
