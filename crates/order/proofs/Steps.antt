-- What one more put does, to a table by `step` and to the order of the puts: both grow by its line.
-- True r: the table r as a relation.
-- Assumes nothing.
use Rattle.std.proofs.Common.{◌≡◌, ℕ, Bool, true, false, cond, ◌||◌, eqb, ◌⊎◌, List, [], ◌∷◌, sym, refl, inl, inr, ⊎_elim, arith}
use Rattle.std.proofs.lemmas.Bool.{eqb-true, or_cases, and_parts, false≢true}
use Rattle.std.proofs.lemmas.Bool.Decides.{nat_tests}
use Rattle.order.specs.Order.{Put, whole, behind, ahead}
use Rattle.order.specs.Table.{step, bef}
use Rattle.order.specs.Good.{Stands}
use Rattle.order.proofs.Precedes.{Sub, precedes_transitive, precedes_more, at_then, then_at, at_more}
use Rattle.order.proofs.Grown.{Grown, from, into, old, grown_more}

abbrev pub True : (ℕ → ℕ → Bool) → ℕ → ℕ → Type 0
True r u v = r u v ≡ true

step_grown : (r : ℕ → ℕ → Bool) (p : Put) → Sub (True (step r p)) (Grown (True r) p)
step_grown r p u v = go (eqb u p.line) (eqb v p.line) refl refl
  where
    either : (s t x y : ℕ) → (eqb s t || r x y) ≡ true → (s ≡ t) ⊎ True r x y
    either s t x y h = ⊎_elim (λ e. inl (eqb-true s t e)) inr (or_cases (eqb s t) (r x y) h)

    go : (e f : Bool) → eqb u p.line ≡ e → eqb v p.line ≡ f →
        cond e (cond f false (eqb v p.before || r p.before v)) (cond f (eqb u p.after || r u p.after) (r u v)) ≡ true → Grown (True r) p u v
    go true true g h k = absurd (false≢true k)
    go true false g h k = from (eqb-true _ _ g) (⊎_elim (λ e. inl (sym e)) inr (either v p.before p.before v k))
    go false true g h k = into (eqb-true _ _ h) (either u p.after u p.after k)
    go false false g h k = old k

-- The other way the new line must stand nowhere in the table.
pub grown_step : (r : ℕ → ℕ → Bool) (p : Put) → ((u v : ℕ) → True r u v → (u ≡ p.line → ⊥) × (v ≡ p.line → ⊥)) → True r p.after p.before →
    Sub (Grown (True r) p) (True (step r p))
grown_step r p absent between u v (from e (inl f)) = let k = absent _ _ between in grind (arith, nat_tests)
grown_step r p absent between u v (from e (inr h)) = let k = absent _ _ h in grind (arith, nat_tests)
grown_step r p absent between u v (into e (inl f)) = let k = absent _ _ between in grind (arith, nat_tests)
grown_step r p absent between u v (into e (inr h)) = let k = absent _ _ h in grind (arith, nat_tests)
grown_step r p absent between u v (old h) = let k = absent _ _ h in grind (arith, nat_tests)

pub stands_old : (p : Put) (Q : List Put) → Sub (Stands Q) (Stands (p ∷ Q))
stands_old p Q = precedes_more (λ q i. inr i)

pub grown_stands : (p : Put) (Q : List Put) → Sub (Grown (Stands Q) p) (Stands (p ∷ Q))
grown_stands p Q u v (from e h) = rw e (then_at precedes_transitive (ahead p (inl refl)) (at_more (stands_old p Q) _ _ h))
grown_stands p Q u v (into e h) = rw e (at_then precedes_transitive (at_more (stands_old p Q) _ _ h) (behind p (inl refl)))
grown_stands p Q u v (old h) = stands_old p Q u v h

pub bef_stands : (Q : List Put) → Sub (True (bef Q)) (Stands Q)
bef_stands [] u v h = let e = and_parts (eqb u 0) (eqb v 1) h in rw (eqb-true u 0 e.0, eqb-true v 1 e.1) whole
bef_stands (p ∷ Q) u v h = grown_stands p Q u v (grown_more (bef_stands Q) p u v (step_grown (bef Q) p u v h))
