use Rattle.std.proofs.Common.{◌≡◌, ◌++◌, map, take, drop}
use Rattle.store.specs.Entries.{lowered}
use Rattle.store.proofs.entry.lower.Given as goal

abbrev pub invariant-loop-entry : goal.invariant-loop-entry
invariant-loop-entry l = l.entries ≡ map (lowered l.by) (take l.entry-index l.initial.entries) ++ drop l.entry-index l.initial.entries
