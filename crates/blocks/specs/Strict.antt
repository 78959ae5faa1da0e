-- What the theorems on blocks ask of an order.
-- Says before: the order that a test tells. Strict R: R is a strict order.
-- Assumes nothing.
use Rattle.std.specs.Prelude.{◌≡◌, ℕ, Bool, true}

abbrev pub Says : (ℕ → ℕ → Bool) → ℕ → ℕ → Type 0
Says before u v = before u v ≡ true

-- No line stands before itself, and what stands before a line stands before all that this stands before.
pub record Strict (R : ℕ → ℕ → Type 0) : Type 0 where
  pub never : (u : ℕ) → R u u → ⊥
  pub onward : {u w : ℕ} (v : ℕ) → R u v → R v w → R u w
