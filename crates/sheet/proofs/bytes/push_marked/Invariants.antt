use Rattle.std.proofs.Common.{◌≡◌, ◌++◌, take, vec_items}
use Rattle.std.specs.List.{flat_map}
use Rattle.sheet.specs.Shown.{numbered_line}
use Rattle.sheet.proofs.bytes.push_marked.Given as goal

abbrev pub invariant-loop-line : goal.invariant-loop-line
invariant-loop-line l = vec_items l.out ≡ vec_items l.initial.out ++ flat_map (numbered_line l.area) (take l.line-index l.lines)
