-- What holds of taking a change back: which may be, that the book stays sane, and that the rest stands as it did.
-- Assumes nothing.
use Rattle.std.proofs.Common.{◌≡◌, ℕ, Bool, true, false, cond, not, eqb, ◌↔◌, length, refl, subst, arith}
use Rattle.std.proofs.lemmas.List.Filters.{sum_by-filter_both}
use Rattle.std.proofs.lemmas.Bool.{ne_eqb, not_from_false}
use Rattle.std.proofs.lemmas.Bool.Decides.{Decides-and, Decides-not}
use Rattle.change.specs.Membership.{In}
use Rattle.change.specs.Model.{Change}
use Rattle.order.specs.Order.{Order, Line}
use Rattle.order.specs.Fits.{Listed}
use Rattle.order.specs.Theorems.{without, NoneNeeds}
use Rattle.order.proofs.Deciding.{decides_every}
use Rattle.order.proofs.OneName.{has_name_lem}
use Rattle.order.proofs.Fitting.{listed_sound}
use Rattle.order.proofs.ClosedPart.{listed_kept}
use Rattle.order.proofs.TakenBack.{taken_back_lem}
use Rattle.verdict.specs.FromNeeds.{is_among}
use Rattle.verdict.proofs.FromNeeds.{decides_among}
use Rattle.history.specs.Book.{Book}
use Rattle.history.specs.Taking.{is_free, take_back, taken_back}
use Rattle.history.specs.Sane.{Sane}
use Rattle.history.specs.Theorems.{SaneTakeBack, RestStands, FreeIsUnneeded}
use Rattle.history.proofs.Names.{has_name_more, kept_within, length_kept}

pub free_is_unneeded : FreeIsUnneeded
free_is_unneeded B n =
    Decides-and _ _ (has_name_lem B.changes n)
    (decides_every (λ d. not (is_among n d.needs)) (λ d. In n d.needs → ⊥) (λ d. Decides-not _ (decides_among n d.needs)) B.changes)

-- What holds of the book as it was, and of the book without the change if none needs that, holds of the book after.
pub back_or_as_was : (B : Book) (n : ℕ) (P : Book → Type 0) → P B → (NoneNeeds n B.changes → P (taken_back B n)) → P (take_back B n)
back_or_as_was B n P as_was back = go (is_free B n) refl
  where
    go : (b : Bool) → is_free B n ≡ b → P (cond b (taken_back B n) B)
    go true e = back ((free_is_unneeded B n).0 e).1
    go false e = as_was

module _ (B : Book) (s : Sane B) (n : ℕ) where
  back_listed : NoneNeeds n B.changes → Listed (without n B.changes)
  back_listed none =
      listed_kept _ B.changes s.orderly.listed
      (λ c d i j t k. not_from_false _ (ne_eqb d.name n (λ e. none c i (subst (λ m. In m c.needs) e k))))

  back_sane : NoneNeeds n B.changes → Sane (taken_back B n)
  back_sane none = record {
    orderly = record {
      listed = back_listed none;
      formed = s.orderly.formed;
      distinct = s.orderly.distinct;
      outside = λ c i h. s.orderly.outside c i (has_name_more (without n B.changes) B.changes (kept_within _ B.changes) c.name h);
      few_changes = omega (arith, length_kept kept B.changes);
      few_lines = omega (arith, sum_by-filter_both kept (λ c. not (kept c)) (λ c. refl) (λ c. length c.adds) B.changes);
      few_wait = s.orderly.few_wait;
      counted = λ c i. s.orderly.counted c (kept_within _ B.changes c i);
    };
    lacking = λ c i. let (m, j, none_has) = s.lacking c i in (m, j, λ h. none_has (has_name_more (without n B.changes) B.changes (kept_within _ B.changes) m h));
  }
    where
      kept : Change → Bool
      kept c = not (eqb c.name n)

pub sane_take_back : SaneTakeBack
sane_take_back B s n = back_or_as_was B n Sane s (back_sane B s n)

pub rest_stands : RestStands
rest_stands B s n =
    back_or_as_was B n (λ A. (u v : ℕ) → Line A.changes u → Line A.changes v → Order A.changes u v ↔ Order B.changes u v)
    (λ u v hu hv. (λ o. o, λ o. o)) (λ none. (taken_back_lem B.changes n (listed_sound _ s.orderly.listed) none).1)
