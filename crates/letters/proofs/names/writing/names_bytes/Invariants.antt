use Rattle.std.proofs.Common.{◌≡◌, ◌++◌, take, vec_items}
use Rattle.std.specs.List.{flat_map}
use Rattle.change.specs.Bytes.{number_bytes}
use Rattle.letters.proofs.names.writing.names_bytes.Given as goal

abbrev pub invariant-loop-n : goal.invariant-loop-n
invariant-loop-n l = vec_items l.out ≡ vec_items l.initial.out ++ flat_map number_bytes (take l.n-index l.names)
