-- When a table of slots takes what it is asked for.
-- fits: so many bytes hold a table of so many slots. may_let_go: a slot that is neither the start nor the end. may_put: such a slot can be put between two others that stand in this order.
-- Assumes nothing.
use Rattle.std.specs.Prelude.{ℕ, ◌*◌, Bool, not, ◌&&◌, ◌==◌, nat_le, nat_lt}
use Rattle.table.specs.Cells.{most_slots, stride}

abbrev pub fits : ℕ → ℕ → Bool
fits bytes slots = nat_le 2 slots && (nat_le slots most_slots && nat_le (slots * stride slots) bytes)

abbrev pub may_let_go : ℕ → ℕ → Bool
may_let_go slots x = nat_le 2 x && nat_lt x slots

abbrev pub may_put : (ℕ → ℕ → Bool) → ℕ → ℕ → ℕ → ℕ → Bool
may_put R slots x a b = may_let_go slots x && (not (x == a) && (not (x == b) && R a b))
