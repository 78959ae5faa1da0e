use Rattle.std.proofs.Common.{◌≡◌, ◌+◌, length, take}
use Rattle.store.specs.Kept.{kept}
use Rattle.outgoing.proofs.Sizes.{bytes_at}
use Rattle.outgoing.proofs.writing.fits.Given as goal

abbrev pub invariant-loop-place : goal.invariant-loop-place
invariant-loop-place l = length (bytes_at (kept l.store) (take l.place-index l.places)) + l.left ≡ l.room
