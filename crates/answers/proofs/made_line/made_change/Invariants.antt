use Rattle.std.proofs.Common.{◌≡◌, ◌++◌, vec_items}
use Rattle.std.specs.List.{flat_map}
use Rattle.answers.specs.Lines.{spaced, lines_of}
use Rattle.answers.proofs.made_line.made_change.Given as goal

abbrev pub invariant-loop-place : goal.invariant-loop-place
invariant-loop-place l = vec_items l.out ≡ vec_items l.initial.out ++ flat_map spaced (lines_of l.name.0 l.place)
