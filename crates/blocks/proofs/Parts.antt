-- The parts of a walk: its back is a walk, and its front is one where it stands wholly before the back.
-- Assumes nothing.
use Rattle.std.proofs.Common.{ℕ, ◌≤◌, List, [], ◌∷◌, ◌++◌, subst, inl, inr, ⊎_elim}
use Rattle.change.specs.Membership.{In}
use Rattle.order.proofs.Members.{in_left, in_right, in_either}
use Rattle.blocks.specs.Relation.{Free, Walk}
use Rattle.blocks.specs.Strict.{Strict}

module _ (R : ℕ → ℕ → Type 0) where
  pub walk_back : (p s : List ℕ) → Walk R (p ++ s) → Walk R s
  walk_back [] s w = w
  walk_back (u ∷ p) s w = walk_back p s w.3

  -- no line of a walk stands before an earlier one
  pub walk_forward : (p s : List ℕ) → Walk R (p ++ s) → (u v : ℕ) → In u p → In v s → R v u → ⊥
  walk_forward [] s w u v i j r = i
  walk_forward (x ∷ p) s w u v (inl e) j r = w.1 v (inr (in_right p s v j)) (subst (R v) e r)
  walk_forward (x ∷ p) s w u v (inr i) j r = walk_forward p s w.3 u v i j r

  pub walk_front : Strict R → (p s : List ℕ) → ((u v : ℕ) → In u p → In v s → R u v) → Walk R (p ++ s) → Walk R p
  walk_front strict [] s above w = tt
  walk_front strict (x ∷ p) s above w =
      (λ i. w.0 (in_left p s x i), λ v i. w.1 v (in_left (x ∷ p) s v i), low, walk_front strict p s (λ u v i. above u v (inr i)) w.3)
    where
      still_free : (v : ℕ) → In v (x ∷ p) → Free R (x ∷ p) v → Free R (x ∷ (p ++ s)) v
      still_free v i f y j r = ⊎_elim (λ k. f y k r) (λ k. strict.never y (strict.onward v r (above v y i k))) (in_either (x ∷ p) s y j)

      low : (v : ℕ) → In v p → Free R (x ∷ p) v → x ≤ v
      low v i f = w.2 v (in_left p s v i) (still_free v (inr i) f)
