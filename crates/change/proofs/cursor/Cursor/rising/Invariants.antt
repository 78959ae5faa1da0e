use Rattle.std.proofs.Common.{◌≡◌, suc, ◌-◌, ◌≤◌}
use Rattle.change.specs.Cursor.{lent, left}
use Rattle.change.specs.Few.{listed}
use Rattle.change.specs.Reading.{several, number_within}
use Rattle.change.proofs.Several.{Going}
use Rattle.change.proofs.cursor.Cursor.rising.Given as goal

abbrev pub invariant-loop : goal.invariant-loop
invariant-loop g l =
    Going (number_within l.highest) suc (l.count - l.counter) l.low (left l.self) (listed l.numbers)
    (several (number_within l.highest) suc l.count l.lowest (left l.initial.self))
    × (l.numbers.count ≡ l.counter)
    × (lent l.self ≡ lent l.initial.self)
    × (l.count ≤ g.row.N)
