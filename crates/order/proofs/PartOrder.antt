-- That some of the puts of a good list, with the lines that they name, keep the order of their lines.
-- HasItsLines P: P has the two lines of each of its puts. Keeps P Q: P's lines stand by P as they do by Q.
-- Assumes nothing.
use Rattle.std.proofs.Common.{ℕ, ◌≤◌, List, [], ◌∷◌, refl, subst, inl, inr, arith}
use Rattle.change.specs.Membership.{In}
use Rattle.order.specs.Order.{Put, Precedes, whole, behind, ahead, AtOrBefore, LineOf}
use Rattle.order.specs.Good.{Stands, Good}
use Rattle.order.proofs.Precedes.{precedes_transitive, at_then, then_at}
use Rattle.order.proofs.Grown.{Grown, from, into, old}
use Rattle.order.proofs.Stands.{nothing_put, laws, stands_grown, same_put}

abbrev pub HasItsLines : (Put → Type 0) → Type 0
HasItsLines P = (p : Put) → P p → LineOf P p.after × LineOf P p.before

abbrev pub Keeps : (Put → Type 0) → List Put → Type 0
Keeps P Q = (u v : ℕ) → LineOf P u → LineOf P v → Stands Q u v → Precedes P u v

module _ (P : Put → Type 0) (lines : HasItsLines P) where
  keeps_at : (Q : List Put) → Keeps P Q → (u v : ℕ) → LineOf P u → LineOf P v → AtOrBefore (Stands Q) u v → AtOrBefore (Precedes P) u v
  keeps_at Q k u v hu hv (inl e) = inl e
  keeps_at Q k u v hu hv (inr h) = inr (k u v hu hv h)

  -- A put whose line is P's is P's own, so that the way along the puts of Q from one of P's lines to another stays among P's lines.
  keeps_own : (Q : List Put) → Good Q → ((p : Put) → In p Q → LineOf P p.line → P p) → Keeps P Q
  keeps_own [] g own u v hu hv s = let e = nothing_put u v s in rw (e.0, e.1) whole
  keeps_own (p ∷ Q) (n, g) own u v hu hv s = go (keeps_own Q g (λ q i. own q (inr i))) (stands_grown p Q n (laws Q g) u v s)
    where
      go : Keeps P Q → Grown (Stands Q) p u v → Precedes P u v
      go k (from e h) = let m = own p (inl refl) (subst (LineOf P) e hu) in rw e (then_at precedes_transitive (ahead p m) (keeps_at Q k _ v (lines p m).1 hv h))
      go k (into e h) = let m = own p (inl refl) (subst (LineOf P) e hv) in rw e (at_then precedes_transitive (keeps_at Q k u _ hu (lines p m).0 h) (behind p m))
      go k (old h) = k u v hu hv h

line_low : (Q : List Put) → Good Q → (p : Put) → In p Q → 2 ≤ p.line
line_low [] g p i = absurd i
line_low (q ∷ Q) (n, g) p (inl e) = rw e n.low
line_low (q ∷ Q) (n, g) p (inr i) = line_low Q g p i

pub part_keeps : (Q : List Put) → Good Q → (P : Put → Type 0) → HasItsLines P → ((p : Put) → P p → In p Q) → Keeps P Q
part_keeps Q g P lines within = keeps_own P lines Q g own
  where
    own : (p : Put) → In p Q → LineOf P p.line → P p
    own p i (inl e) = let k = line_low Q g p i in absurd (omega arith)
    own p i (inr (inl e)) = let k = line_low Q g p i in absurd (omega arith)
    own p i (inr (inr (q, h, e))) = subst P (same_put Q g q p (within q h) i e) h
