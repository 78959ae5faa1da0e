use Rattle.std.proofs.Common.{All, vec_items}
use Rattle.rehearse.specs.Seats.{Unused}
use Rattle.rehearse.proofs.free_seats.seats_in.Given as goal

abbrev pub invariant-loop-memory : goal.invariant-loop-memory
invariant-loop-memory l = All Unused (vec_items l.seats)
