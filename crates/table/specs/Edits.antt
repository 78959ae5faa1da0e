-- An order with some of its answers written anew.
-- Same R S: the two orders answer alike. with_cell R i j on: `on` at row i and column j. with_row R x f: f for row x. with_column R x f: f for column x.
-- Assumes nothing.
use Rattle.std.specs.Prelude.{◌≡◌, ℕ, Bool, cond, ◌&&◌, ◌==◌}

abbrev pub Same : (ℕ → ℕ → Bool) → (ℕ → ℕ → Bool) → Type 0
Same R S = (u v : ℕ) → R u v ≡ S u v

abbrev pub with_cell : (ℕ → ℕ → Bool) → ℕ → ℕ → Bool → ℕ → ℕ → Bool
with_cell R i j on u v = cond (u == i && v == j) on (R u v)

abbrev pub with_row : (ℕ → ℕ → Bool) → ℕ → (ℕ → Bool) → ℕ → ℕ → Bool
with_row R x f u v = cond (u == x) (f v) (R u v)

abbrev pub with_column : (ℕ → ℕ → Bool) → ℕ → (ℕ → Bool) → ℕ → ℕ → Bool
with_column R x f u v = cond (v == x) (f u) (R u v)
