-- What holds along a tie; and from this, that blocks stand apart.
-- Told R before: the test tells the order R. Decidable R: each pair of lines stands in the order or does not. Ahead A R u v: u stands before v, and they are in two blocks.
-- Assumes nothing.
use Rattle.std.proofs.Common.{◌≡◌, ℕ, Bool, ◌⊎◌, Decides, sym, subst, inl, inr}
use native.Mathlib.Decide.{ℕ_discrete}
use Rattle.order.proofs.Deciding.{choice}
use Rattle.blocks.specs.Relation.{Loose, Tied, same, by}
use Rattle.blocks.specs.Strict.{Strict}
use Rattle.blocks.specs.Theorems.{AllBefore, Apart}

abbrev pub Told : (ℕ → ℕ → Type 0) → (ℕ → ℕ → Bool) → Type 0
Told R before = (u v : ℕ) → Decides (before u v) (R u v)

abbrev pub Decidable : (ℕ → ℕ → Type 0) → Type 0
Decidable R = (u v : ℕ) → Dec (R u v)

pub decidable : {R : ℕ → ℕ → Type 0} {before : ℕ → ℕ → Bool} → Told R before → Decidable R
decidable {before = before} told u v = choice (before u v) (told u v)

abbrev Ahead : (ℕ → Type 0) → (ℕ → ℕ → Type 0) → ℕ → ℕ → Type 0
Ahead A R u v = A u × A v × (Tied A R u v → ⊥) × R u v

module _ {A : ℕ → Type 0} {R : ℕ → ℕ → Type 0} where
  pub along : (P : ℕ → Type 0) → ((u v : ℕ) → Loose A R u v → P u → P v) → {u w : ℕ} → Tied A R u w → P u → P w
  along P pass same p = p
  along P pass (by {u = u} v l t) p = along P pass t (pass u v l p)

  pub tied_on : {u v w : ℕ} → Tied A R u v → Tied A R v w → Tied A R u w
  tied_on same t = t
  tied_on (by v l s) t = by v l (tied_on s t)

  loose_back : {u v : ℕ} → Loose A R u v → Loose A R v u
  loose_back l = record { lives = l.other_lives; other_lives = l.lives; differ = λ e. l.differ (sym e); not_before = l.not_behind; not_behind = l.not_before }

  pub tied_back : {u v : ℕ} → Tied A R u v → Tied A R v u
  tied_back {u} t = along (λ x. Tied A R x u) (λ x y l s. by x (loose_back l) s) t same

  pub tied_equal : {u v : ℕ} → u ≡ v → Tied A R u v
  tied_equal {u} e = subst (λ x. Tied A R u x) e same

  -- loose, equal, or one before the other
  pub tied_or_ordered : Decidable R → (u v : ℕ) → A u → A v → Tied A R u v ⊎ (R u v ⊎ R v u)
  tied_or_ordered dec u v a b = go (ℕ_discrete u v) (dec u v) (dec v u)
    where
      go : Dec (u ≡ v) → Dec (R u v) → Dec (R v u) → Tied A R u v ⊎ (R u v ⊎ R v u)
      go (yes e) _ _ = inl (tied_equal e)
      go (no ne) (yes r) _ = inr (inl r)
      go (no ne) (no nr) (yes s) = inr (inr s)
      go (no ne) (no nr) (no ns) = inl (by v record { lives = a; other_lives = b; differ = ne; not_before = nr; not_behind = ns } same)

  module _ (strict : Strict R) (dec : Decidable R) where
    ahead_left : (v u x : ℕ) → Loose A R u x → Ahead A R u v → Ahead A R x v
    ahead_left v u x l (a, b, n, r) = (l.other_lives, b, untied, go (tied_or_ordered dec x v l.other_lives b))
      where
        untied : Tied A R x v → ⊥
        untied t = n (by x l t)

        go : Tied A R x v ⊎ (R x v ⊎ R v x) → R x v
        go (inl t) = absurd (untied t)
        go (inr (inl q)) = q
        go (inr (inr q)) = absurd (l.not_before (strict.onward v r q))

    ahead_right : (u v y : ℕ) → Loose A R v y → Ahead A R u v → Ahead A R u y
    ahead_right u v y l (a, b, n, r) = (a, l.other_lives, untied, go (tied_or_ordered dec u y a l.other_lives))
      where
        untied : Tied A R u y → ⊥
        untied t = n (tied_on t (by v (loose_back l) same))

        go : Tied A R u y ⊎ (R u y ⊎ R y u) → R u y
        go (inl t) = absurd (untied t)
        go (inr (inl q)) = q
        go (inr (inr q)) = absurd (l.not_behind (strict.onward u q r))

    all_before : {u v : ℕ} → Ahead A R u v → AllBefore A R u v
    all_before {v = v} h x y s t = (along (Ahead A R x) (ahead_right x) t (along (λ z. Ahead A R z v) (ahead_left v) s h)).3

    pub apart : Apart A R
    apart u v a b n = go (tied_or_ordered dec u v a b)
      where
        go : Tied A R u v ⊎ (R u v ⊎ R v u) → AllBefore A R u v ⊎ AllBefore A R v u
        go (inl t) = absurd (n t)
        go (inr (inl r)) = inl (all_before (a, b, n, r))
        go (inr (inr r)) = inr (all_before (b, a, λ t. n (tied_back t), r))
