-- Orders that answer alike do so after a put, and after a line is let go.
-- Assumes nothing.
use Rattle.std.proofs.Common.{ℕ, Bool, arith}
use Rattle.order.specs.Order.{Put}
use Rattle.order.specs.Table.{step, cleared}
use Rattle.table.specs.Edits.{Same}

pub step_of_same : (R S : ℕ → ℕ → Bool) (p : Put) → Same R S → Same (step R p) (step S p)
step_of_same R S p e u v = grind (arith, e p.before v, e u p.after, e u v)

pub cleared_of_same : (R S : ℕ → ℕ → Bool) (x : ℕ) → Same R S → Same (cleared R x) (cleared S x)
cleared_of_same R S x e u v = grind (arith, e u v)
