use Rattle.std.proofs.Common.{◌≡◌, ◌-◌, ◌≤◌}
use Rattle.change.specs.Cursor.{lent, left}
use Rattle.change.specs.Reading.{several, add_of}
use Rattle.change.specs.View.{adds_seen}
use Rattle.change.proofs.Several.{Going}
use Rattle.change.proofs.cursor.Cursor.adds.Given as goal

abbrev pub invariant-loop : goal.invariant-loop
invariant-loop l =
    Going (λ _. add_of) (λ _. 0) (l.count - l.counter) 0 (left l.self) (adds_seen l.adds)
    (several (λ _. add_of) (λ _. 0) l.count 0 (left l.initial.self))
    × (l.adds.count ≡ l.counter)
    × (lent l.self ≡ lent l.initial.self)
    × (l.count ≤ 64)
