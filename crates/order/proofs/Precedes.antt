-- What more puts do to an order, and how a line before another goes with one at it or before it.
-- Transitive R: what stands before a line stands before all that the line stands before. Sub R T: T has all that R has.
-- Assumes nothing.
use Rattle.std.proofs.Common.{ℕ, List, inl, inr}
use Rattle.change.specs.Membership.{Within, SameMembers}
use Rattle.change.specs.Model.{Change}
use Rattle.order.specs.Order.{Put, Brought, Precedes, whole, behind, ahead, through, Order, AtOrBefore, LineOf}

abbrev pub Transitive : (ℕ → ℕ → Type 0) → Type 0
Transitive R = (u v w : ℕ) → R u v → R v w → R u w

abbrev pub Sub : (ℕ → ℕ → Type 0) → (ℕ → ℕ → Type 0) → Type 0
Sub R T = (u v : ℕ) → R u v → T u v

pub precedes_transitive : {P : Put → Type 0} → Transitive (Precedes P)
precedes_transitive u v w h k = through v h k

pub precedes_more : {P T : Put → Type 0} → ((p : Put) → P p → T p) → Sub (Precedes P) (Precedes T)
precedes_more f _ _ whole = whole
precedes_more f _ _ (behind p h) = behind p (f p h)
precedes_more f _ _ (ahead p h) = ahead p (f p h)
precedes_more f u w (through v h k) = through v (precedes_more f u v h) (precedes_more f v w k)

pub line_more : {P T : Put → Type 0} → ((p : Put) → P p → T p) → (u : ℕ) → LineOf P u → LineOf T u
line_more f u (inl e) = inl e
line_more f u (inr (inl e)) = inr (inl e)
line_more f u (inr (inr (p, h, e))) = inr (inr (p, f p h, e))

pub brought_more : (S R : List Change) → Within S R → (p : Put) → Brought S p → Brought R p
brought_more S R w p (c, i, j) = (c, w c i, j)

pub order_alike : (S R : List Change) → SameMembers S R → (u v : ℕ) → (Order S u v → Order R u v) × (Order R u v → Order S u v)
order_alike S R (to, from) u v = (precedes_more (brought_more S R to) u v, precedes_more (brought_more R S from) u v)

pub at_more : {R T : ℕ → ℕ → Type 0} → Sub R T → Sub (AtOrBefore R) (AtOrBefore T)
at_more f u v (inl e) = inl e
at_more f u v (inr h) = inr (f u v h)

module _ {R : ℕ → ℕ → Type 0} (trans : Transitive R) where
  pub at_then : {u v w : ℕ} → AtOrBefore R u v → R v w → R u w
  at_then (inl e) k = rw e k
  at_then (inr h) k = trans _ _ _ h k

  pub then_at : {u v w : ℕ} → R u v → AtOrBefore R v w → R u w
  then_at h (inl e) = rw e at h
  then_at h (inr k) = trans _ _ _ h k
