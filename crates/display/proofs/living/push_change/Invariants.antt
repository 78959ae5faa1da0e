use Rattle.std.proofs.Common.{ℕ, List, ◌++◌, take}
use Rattle.change.specs.Viewed.{viewed}
use Rattle.lines.specs.Lines.{numbers_of}
use Rattle.display.specs.Added.{added_by, sparing}
use Rattle.display.specs.Gathered.{Gives}
use Rattle.display.proofs.living.push_change.Given as goal

abbrev pub invariant-loop-place : goal.invariant-loop-place
invariant-loop-place l =
    (ps : List (ℕ × List ℕ)) → Gives (numbers_of l.lines) l.initial.living ps →
    Gives (numbers_of l.lines) l.living (ps ++ sparing l.killed.lines.now (take l.place (added_by (viewed l.view))))
