use Rattle.std.proofs.Common.{◌≡◌, ℕ, suc, ◌-◌, List}
use Rattle.change.specs.Cursor.{lent, left}
use Rattle.change.specs.Reading.{several, number_within}
use Rattle.change.specs.WellFormed.{lowest_name, highest_name}
use Rattle.change.proofs.Several.{Going}
use Rattle.letters.proofs.names.reading.pass_names.Given as goal

abbrev pub invariant-loop : goal.invariant-loop
invariant-loop l =
    ((read : List ℕ) × Going (number_within highest_name) suc (l.count - l.counter) l.low (left l.cursor) read (several (number_within highest_name) suc l.count lowest_name (left l.initial.cursor)))
    × (lent l.cursor ≡ lent l.initial.cursor)
