use Rattle.std.proofs.Common.{ℕ, ◌-◌, ◌<◌, ◌≤◌, length, get_or}
use Rattle.letters.specs.NamesView.{names_in}
use Rattle.letters.proofs.names.Names.has.Given as goal

-- all before `low` are lower than the name, and all from `high` on are higher
abbrev pub invariant-loop-low : goal.invariant-loop-low
invariant-loop-low l =
    ((k : ℕ) → k < l.low → get_or (names_in l.self) k 0 < l.name.0)
    × ((k : ℕ) → l.high ≤ k → k < length (names_in l.self) → l.name.0 < get_or (names_in l.self) k 0)
    × (l.high ≤ length (names_in l.self))

abbrev pub decreases-loop-low : goal.decreases-loop-low
decreases-loop-low l = l.high - l.low
