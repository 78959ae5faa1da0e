-- What a table answers, in the words of the order itself.
-- Assumes nothing.
use Rattle.std.specs.Prelude.{ℕ, List, Decides}
use Rattle.order.specs.Order.{Put}
use Rattle.order.specs.Good.{Stands, Good}
use Rattle.table.specs.declared.Table.{Table}
use Rattle.table.specs.Held.{held, Holds}

-- Of the lines put, a table that holds their order says of any two whether the one stands before the other.
abbrev pub AskedExactly : Type 0
AskedExactly = (t : Table) (Q : List Put) → Good Q → Holds t Q → (i j : ℕ) → Decides (held t i j) (Stands Q i j)
