use Rattle.std.proofs.Common.{List, ℕ, refl, vec_items, subst}
use Rattle.std.proofs.lemmas.Option.{MatchOption-at_some}
use Rattle.plant_books.specs.Books.{book_of}
use Rattle.world.specs.Calls.{take_bytes}
use Rattle.desk.specs.Answering.{TakeAnswered}
use Rattle.desk.proofs.Digits.{digits_taken}
use Rattle.desk.proofs.taking.take_digits.Goals as goal

pub returns-in-Some : goal.returns-in-Some
returns-in-Some c asked =
    let read = MatchOption-at_some _ _ _ c.in-Some.is c.in_ok-bytes.ensures in
    let was = book_of c.args.book.now in
    let now = book_of c.take.new.book in
    let P : List ℕ → Type 0 = λ b. TakeAnswered (take_bytes was b) was now (vec_items c.args.out.now) (vec_items c.take.new.out) c.take.result in
    digits_taken c.args.digits.now (vec_items c.in-Some.bytes) (record { book = was; request = asked }) (record { book = now; request = asked }) _ _ c.take.result
    (record { in_range = read.0; spells = read.1 }) refl (subst P c.as_slice.ensures.value c.take.ensures)
