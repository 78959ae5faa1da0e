-- The put of line x between a and b.
-- Assumes nothing.
use Rattle.std.specs.Prelude.{ℕ}
use Rattle.order.specs.Order.{Put}

abbrev pub put_of : ℕ → ℕ → ℕ → Put
put_of x a b = record { line = x; after = a; before = b }
