-- The puts of a change's adds, on top of others.
-- puts_of n adds: those of the adds, for the lines n, n + 1 and so on. in_order Q ps: each put of ps goes between two lines that stand in this order once those before it are put on Q.
-- Given first count u: u is one of so many lines from the first on. Fresh Q first count: none of these is a line of Q. Without Q first count Q': Q' has the other lines of Q, in the same order.
-- Assumes nothing.
use Rattle.std.specs.Prelude.{◌≡◌, ℕ, ◌+◌, ◌<◌, ◌≤◌, Bool, true, ◌&&◌, List, [], ◌∷◌, map}
use Rattle.change.specs.declared.add.AddView.{AddView}
use Rattle.change.specs.View.{add_seen}
use Rattle.order.specs.Order.{Put, puts_from}
use Rattle.order.specs.Table.{bef}
use Rattle.order.specs.Good.{On}

abbrev pub puts_of : ℕ → List AddView → List Put
puts_of n adds = puts_from n (map add_seen adds)

abbrev pub in_order : List Put → List Put → Bool
in_order Q [] = true
in_order Q (p ∷ ps) = bef Q p.after p.before && in_order (p ∷ Q) ps

abbrev pub Given : ℕ → ℕ → ℕ → Type 0
Given first count u = (first ≤ u) × (u < first + count)

abbrev pub Fresh : List Put → ℕ → ℕ → Type 0
Fresh Q first count = (u : ℕ) → Given first count u → On Q u → ⊥

pub record Without (Q : List Put) (first count : ℕ) (Q' : List Put) : Type 0 where
  pub fewer : (u : ℕ) → On Q' u → On Q u × (Given first count u → ⊥)
  pub others : (u : ℕ) → On Q u → (Given first count u → ⊥) → On Q' u
  pub order : (u v : ℕ) → On Q' u → On Q' v → bef Q' u v ≡ bef Q u v
