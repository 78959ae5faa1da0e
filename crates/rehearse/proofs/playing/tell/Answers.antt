use Rattle.std.proofs.Common.{Some, refl}
use Rattle.std.proofs.lemmas.Option.{slice_get-get_or}
use Rattle.rehearse.proofs.playing.tell.Goals as goal

pub returns-in-Some : goal.returns-in-Some
returns-in-Some c =
    let seats = c.take_seat.new.seats in
    let k = c.in-Some.place in (
      Some k,
      seats,
      c.in-Some.ensures.took,
      (_, _, slice_get-get_or seats k c.index-seats-place.result c.in-Some.ensures.within, refl, record { plant = refl; desk = c.perform.ensures }),
    )
