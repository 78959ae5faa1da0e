-- What a table holds, by its fields.
-- held t: the order that it holds. Holds t Q: that is the order of the puts Q, the latest first. Kept s t: t has as many slots and bytes as s.
-- Assumes nothing.
use Rattle.std.specs.Prelude.{◌≡◌, ℕ, Bool, List, length}
use Rattle.order.specs.Order.{Put}
use Rattle.order.specs.Table.{bef}
use Rattle.table.specs.declared.Table.{Table}
use Rattle.table.specs.Cells.{at}
use Rattle.table.specs.Edits.{Same}

abbrev pub held : Table → ℕ → ℕ → Bool
held t = at t.bits.now t.slots

abbrev pub Holds : Table → List Put → Type 0
Holds t Q = Same (held t) (bef Q)

pub record Kept (s t : Table) : Type 0 where
  pub slots : t.slots ≡ s.slots
  pub bytes : length t.bits.now ≡ length s.bits.now
