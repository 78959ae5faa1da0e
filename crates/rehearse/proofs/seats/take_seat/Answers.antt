use Rattle.std.proofs.Common.{inr, refl, sym}
use Rattle.std.proofs.lemmas.List.Quantifiers.{position-Some}
use Rattle.std.proofs.lemmas.Option.{slice_get-get_or}
use Rattle.rehearse.specs.Seats.{is_nobodys}
use Rattle.rehearse.proofs.seats.take_seat.Goals as goal

pub returns-clause-took : goal.returns-clause-took
returns-clause-took c =
    let seats = c.args.seats.now in
    let seat = c.index-seats-place.result in
    let inside = (position-Some (λ s. is_nobodys s.plant) seats c.in_ok-place.place seat (sym c.in_ok-place.ensures)).0 in
    inr (sym c.in_default.ensures, sym c.in_ok-place.ensures, (_, c.give.new.self, slice_get-get_or seats c.in_ok-place.place seat inside, refl, c.give.ensures))
