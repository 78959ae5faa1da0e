-- What is left to mark gives the whole.
use Rattle.std.proofs.Common.{◌≡◌, ◌+◌, length, drop}
use Rattle.lines.specs.Numbers.{marked}
use Rattle.lines.proofs.numbers.mark.Given as goal

abbrev pub invariant-loop-k : goal.invariant-loop-k
invariant-loop-k l =
    (length l.numbers ≡ length l.initial.numbers)
    × (marked l.numbers (l.first + l.k) (drop l.k l.slots) ≡ marked l.initial.numbers l.first l.slots)
