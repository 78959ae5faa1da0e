-- An order with one more line: what it is, and that it is an order again.
-- Grown R p: the order R with the line of p put between its two. Takes R p: R is an order, the two lines of p stand in order in it, and its line stands nowhere in it.
-- Assumes nothing.
use Rattle.std.proofs.Common.{◌≡◌, ℕ, inr}
use Rattle.order.specs.Order.{Put, AtOrBefore}
use Rattle.order.proofs.Precedes.{Transitive, Sub, at_then, then_at, at_more}

pub data Grown (R : ℕ → ℕ → Type 0) (p : Put) (u v : ℕ) : Type 0 where
  from : u ≡ p.line → AtOrBefore R p.before v → Grown R p u v
  into : v ≡ p.line → AtOrBefore R u p.after → Grown R p u v
  old : R u v → Grown R p u v

pub grown_more : {R T : ℕ → ℕ → Type 0} → Sub R T → (p : Put) → Sub (Grown R p) (Grown T p)
grown_more f p u v (from e h) = from e (at_more f _ v h)
grown_more f p u v (into e h) = into e (at_more f u _ h)
grown_more f p u v (old h) = old (f u v h)

pub record Takes (R : ℕ → ℕ → Type 0) (p : Put) : Type 0 where
  pub transitive : Transitive R
  pub irreflexive : (u : ℕ) → R u u → ⊥
  pub between : R p.after p.before
  pub absent : (u v : ℕ) → R u v → (u ≡ p.line → ⊥) × (v ≡ p.line → ⊥)

module _ {R : ℕ → ℕ → Type 0} {p : Put} (t : Takes R p) where
  not_past : (v : ℕ) → AtOrBefore R p.before v → v ≡ p.line → ⊥
  not_past v h = (t.absent _ v (then_at t.transitive t.between h)).1

  not_up_to : (u : ℕ) → AtOrBefore R u p.after → u ≡ p.line → ⊥
  not_up_to u h = (t.absent u _ (at_then t.transitive h t.between)).0

  pub grown_irreflexive : (u : ℕ) → Grown R p u u → ⊥
  grown_irreflexive u (from e h) = not_past u h e
  grown_irreflexive u (into e h) = not_up_to u h e
  grown_irreflexive u (old h) = t.irreflexive u h

  pub grown_transitive : Transitive (Grown R p)
  grown_transitive u v w (from e h) (from f k) = absurd (not_past v h f)
  grown_transitive u v w (from e h) (into f k) = absurd (t.irreflexive _ (then_at t.transitive (then_at t.transitive t.between h) k))
  grown_transitive u v w (from e h) (old k) = from e (inr (at_then t.transitive h k))
  grown_transitive u v w (into e h) (from f k) = old (then_at t.transitive (at_then t.transitive h t.between) k)
  grown_transitive u v w (into e h) (into f k) = absurd (not_up_to v k e)
  grown_transitive u v w (into e h) (old k) = absurd ((t.absent v w k).0 e)
  grown_transitive u v w (old h) (from f k) = absurd ((t.absent u v h).1 f)
  grown_transitive u v w (old h) (into f k) = into f (inr (then_at t.transitive h k))
  grown_transitive u v w (old h) (old k) = old (t.transitive u v w h k)
