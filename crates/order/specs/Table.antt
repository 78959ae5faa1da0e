-- The order worked out as lines come, one put after another: what a table of bits holds, and what one more line does to it.
-- step R p: the order R with the line of p put between its two. bef Q: that for all puts of Q, the latest first. placed L: the puts of the changes L, the latest first.
-- cleared R x: R without the line x.
-- Assumes nothing.
use Rattle.std.specs.Prelude.{ℕ, Bool, false, cond, ◌&&◌, ◌||◌, List, [], ◌∷◌, ◌==◌}
use Rattle.change.specs.Model.{Change}
use Rattle.order.specs.Order.{Put, puts}

-- The new line stands before the second of the two and what that stands before, and behind the first and what stands before that; the others stand as they did.
abbrev pub step : (ℕ → ℕ → Bool) → Put → ℕ → ℕ → Bool
step R p u v =
    cond (u == p.line) (cond (v == p.line) false (v == p.before || R p.before v))
    (cond (v == p.line) (u == p.after || R u p.after) (R u v))

abbrev pub bef : List Put → ℕ → ℕ → Bool
bef [] u v = u == 0 && v == 1
bef (p ∷ Q) u v = step (bef Q) p u v

abbrev pub cleared : (ℕ → ℕ → Bool) → ℕ → ℕ → ℕ → Bool
cleared R x u v = cond (u == x || v == x) false (R u v)

-- puts as they come, each on top of those before it
abbrev pub onto : List Put → List Put → List Put
onto Q [] = Q
onto Q (p ∷ ps) = onto (p ∷ Q) ps

abbrev pub placed : List Change → List Put
placed [] = []
placed (c ∷ L) = onto (placed L) (puts c)
