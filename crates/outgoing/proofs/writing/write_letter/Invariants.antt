use Rattle.std.proofs.Common.{take, Some}
use Rattle.letters.specs.Written.{Written}
use Rattle.store.specs.Kept.{kept}
use Rattle.outgoing.proofs.Sizes.{bytes_at}
use Rattle.outgoing.proofs.writing.write_letter.Given as goal

abbrev pub invariant-loop-place : goal.invariant-loop-place
invariant-loop-place l = Written l.initial.end (bytes_at (kept l.store) (take l.place-index l.places)) l.initial.out l.out (Some l.end)
