use Rattle.std.proofs.Common.{vec_items}
use Rattle.letters.specs.NamesView.{names_in}
use Rattle.store.specs.Kept.{kept}
use Rattle.outgoing.proofs.Gathering.{LackingSoFar}
use Rattle.outgoing.proofs.lacking.all_lacking.Given as goal

abbrev pub invariant-loop-place : goal.invariant-loop-place
invariant-loop-place l = LackingSoFar (names_in l.names) (kept l.store) l.place (vec_items l.lacking)
