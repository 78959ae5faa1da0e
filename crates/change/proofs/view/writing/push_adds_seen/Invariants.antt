use Rattle.std.proofs.Common.{◌≡◌, ◌++◌, take, vec_items}
use Rattle.std.specs.List.{flat_map}
use Rattle.change.specs.Bytes.{add_bytes}
use Rattle.change.specs.View.{add_seen}
use Rattle.change.proofs.view.writing.push_adds_seen.Given as goal

abbrev pub invariant-loop-add : goal.invariant-loop-add
invariant-loop-add l = vec_items l.out ≡ vec_items l.initial.out ++ flat_map (λ a. add_bytes (add_seen a)) (take l.add-index l.adds)
