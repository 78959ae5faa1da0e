use Rattle.std.proofs.Common.{All, List, ◌∷◌, [], ◌++◌, vec_items, sym, subst}
use Rattle.std.proofs.lemmas.Option.{MatchOption-at_some}
use Rattle.std.proofs.lemmas.List.Elements.{All-push}
use Rattle.rehearse.specs.declared.seats.Seat.{Seat}
use Rattle.rehearse.specs.Seats.{Unused}
use Rattle.rehearse.proofs.free_seats.seats_in.Goals as goal

one_more : (seats : List Seat) (seat : Seat) → All Unused seats → Unused seat → All Unused (seats ++ seat ∷ [])
one_more = All-push Unused

pub loop-memory-preserved : goal.loop-memory-preserved
loop-memory-preserved c = subst (All {X = Seat} Unused) (sym c.in_ok-push.ensures.items) (one_more (vec_items c.loop-memory.seats) c.in-Some-2.seat c.loop-memory.invariant (MatchOption-at_some (Unit {0}) Unused c.in-Some-2.seat c.in-Some-2.is c.in_ok-seat.ensures))
