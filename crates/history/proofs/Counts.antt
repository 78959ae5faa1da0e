-- That the plant's next name is new, since its count is above all that are counted.
-- Assumes nothing.
use Rattle.std.proofs.Common.{◌≡◌, ℕ, ◌<◌, ◌≤◌, List, [], ◌∷◌, refl, inl, inr, arith}
use Rattle.change.specs.Membership.{In}
use Rattle.change.specs.Model.{Change, count_of, plant_of}
use Rattle.history.specs.Book.{Book, counting_all, next_name}
use Rattle.history.specs.Theorems.{NextIsNew}
use Rattle.history.proofs.Moments.{counting_rises, counting_counts}

pub counting_all_rises : (plant : ℕ) (S : List Change) (n : ℕ) → n ≤ counting_all plant S n
counting_all_rises plant [] n = omega arith
counting_all_rises plant (c ∷ S) n = omega (arith, counting_all_rises plant S n, counting_rises plant c (counting_all plant S n))

pub counting_all_counts : (plant : ℕ) (S : List Change) (n : ℕ) (d : Change) → In d S → plant_of d.name ≡ plant → count_of d.name ≤ counting_all plant S n
counting_all_counts plant [] n d i p = absurd i
counting_all_counts plant (c ∷ S) n d (inl e) p = rw e (counting_counts plant c (counting_all plant S n) (rw e at p))
counting_all_counts plant (c ∷ S) n d (inr i) p = omega (arith, counting_all_counts plant S n d i p, counting_rises plant c (counting_all plant S n))

-- the next name is of the plant, and its count above all that are counted
module _ (B : Book) (low : B.plant < 16) (n : ℕ) (next : n ≡ next_name B) where
  pub next_of_plant : plant_of n ≡ B.plant
  next_of_plant = omega arith

  pub next_above : B.highest < count_of n
  next_above = omega (arith, counting_all_rises B.plant B.waiting B.highest)

  next_above_waiting : (d : Change) → In d B.waiting → d.name ≡ n → ⊥
  next_above_waiting d i e = omega (arith, counting_all_counts B.plant B.waiting B.highest d i (rw e next_of_plant))

pub next_is_new : NextIsNew
next_is_new B s low = (
  λ (d, i, e). omega (arith, s.orderly.counted d i (next_of_plant B low d.name e), next_above B low d.name e),
  λ (d, i, e). next_above_waiting B low d.name e d i refl,
)
