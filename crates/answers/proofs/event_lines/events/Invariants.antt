use Rattle.std.proofs.Common.{◌≡◌, ◌++◌, take, vec_items}
use Rattle.std.specs.List.{flat_map}
use Rattle.answers.specs.Lines.{event_line}
use Rattle.answers.proofs.event_lines.events.Given as goal

abbrev pub invariant-loop-one : goal.invariant-loop-one
invariant-loop-one l = vec_items l.out ≡ vec_items l.initial.out ++ flat_map event_line (take l.one-index l.events)
