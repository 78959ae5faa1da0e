use Rattle.std.proofs.Common.{◌≡◌, ◌++◌, take, vec_items}
use Rattle.std.specs.List.{flat_map}
use Rattle.answers.specs.Lines.{listed_line}
use Rattle.answers.proofs.listed_lines.each_line.Given as goal

abbrev pub invariant-loop-line : goal.invariant-loop-line
invariant-loop-line l = vec_items l.out ≡ vec_items l.initial.out ++ flat_map (listed_line l.texts) (take l.line-index l.lines)
