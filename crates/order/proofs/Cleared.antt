-- That a table from which a line was cleared is the table of the puts without that line's.
-- Assumes nothing.
use Rattle.std.proofs.Common.{◌≡◌, ℕ, ◌≤◌, Bool, true, false, cond, not, eqb, List, [], ◌∷◌, sym, refl, ap, ◌∙◌, inl, inr, arith}
use mathlib.Core.Path.{fun_ext}
use Rattle.std.proofs.lemmas.Bool.{eqb-true, eqb-false}
use Rattle.std.proofs.lemmas.Bool.Decides.{nat_tests}
use Rattle.order.specs.Order.{Put}
use Rattle.order.specs.Table.{step, bef, cleared}
use Rattle.order.specs.Good.{NewOn, Good, NoneNames, dropped}
use Rattle.order.specs.Theorems.{ClearedIsOrder}
use Rattle.order.proofs.Members.{kept_from}
use Rattle.order.proofs.Precedes.{line_more}

cleared_other : (r : ℕ → ℕ → Bool) (x u v : ℕ) → (u ≡ x → ⊥) → (v ≡ x → ⊥) → cleared r x u v ≡ r u v
cleared_other r x u v e f = grind (arith, nat_tests)

-- the put of the cleared line is undone
cleared_step_same : (r : ℕ → ℕ → Bool) (p : Put) (x u v : ℕ) → p.line ≡ x → cleared (step r p) x u v ≡ cleared r x u v
cleared_step_same r p x u v e = grind (arith, nat_tests)

-- any other that doesn't name the line can as well be put after it is cleared
cleared_step_other : (r : ℕ → ℕ → Bool) (p : Put) (x u v : ℕ) → (p.line ≡ x → ⊥) → (p.after ≡ x → ⊥) → (p.before ≡ x → ⊥) →
    cleared (step r p) x u v ≡ step (cleared r x) p u v
cleared_step_other r p x u v l a b = grind (arith, nat_tests)

pub cleared_bef : (Q : List Put) (x : ℕ) → 2 ≤ x → NoneNames x Q → (u v : ℕ) → cleared (bef Q) x u v ≡ bef (dropped x Q) u v
cleared_bef [] x low none u v = grind (arith, nat_tests)
cleared_bef (p ∷ Q) x low none u v = go (eqb p.line x) refl (cleared_bef Q x low (λ q i. none q (inr i)))
  where
    go : (b : Bool) → eqb p.line x ≡ b → ((s t : ℕ) → cleared (bef Q) x s t ≡ bef (dropped x Q) s t) →
        cleared (bef (p ∷ Q)) x u v ≡ bef (cond (not b) (p ∷ dropped x Q) (dropped x Q)) u v
    go true e same = cleared_step_same (bef Q) p x u v (eqb-true _ _ e) ∙ same u v
    go false e same = cleared_step_other (bef Q) p x u v (eqb-false _ _ e) (none p (inl refl)).0 (none p (inl refl)).1 ∙ ap (λ r. step r p u v) (fun_ext (λ s. fun_ext (same s)))

dropped_good : (Q : List Put) (x : ℕ) → Good Q → 2 ≤ x → NoneNames x Q → Good (dropped x Q)
dropped_good [] x g low none = tt
dropped_good (p ∷ Q) x (n, g) low none = go (eqb p.line x) (dropped_good Q x g low none')
  where
    none' : NoneNames x Q
    none' q i = none q (inr i)

    new : NewOn (dropped x Q) p
    new = record {
      low = n.low;
      new = λ o. n.new (line_more (λ q i. (kept_from _ Q q i).0) _ o);
      between = sym (cleared_bef Q x low none' _ _) ∙ cleared_other (bef Q) x _ _ (none p (inl refl)).0 (none p (inl refl)).1 ∙ n.between;
    }

    go : (b : Bool) → Good (dropped x Q) → Good (cond (not b) (p ∷ dropped x Q) (dropped x Q))
    go true good = good
    go false good = (new, good)

pub cleared_is_order : ClearedIsOrder
cleared_is_order Q x g low none = (dropped_good Q x g low none, cleared_bef Q x low none)
