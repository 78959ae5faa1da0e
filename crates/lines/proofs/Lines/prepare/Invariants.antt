-- How far the adds have come.
use Rattle.std.proofs.Common.{◌≡◌}
use Rattle.change.specs.Few.{listed}
use Rattle.lines.proofs.Preparing.{Progress}
use Rattle.lines.proofs.Lines.prepare.Given as goal

abbrev pub invariant-loop-add : goal.invariant-loop-add
invariant-loop-add l =
    (l.slots.count ≡ l.add-index)
    × Progress l.initial.self l.self l.first l.adds l.add-index (listed l.slots) l.from
