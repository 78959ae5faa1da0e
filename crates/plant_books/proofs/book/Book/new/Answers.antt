use Rattle.std.proofs.Common.{◌≡◌}
use Rattle.std.proofs.lemmas.Option.{MatchOption-at_some}
use Rattle.history.specs.Book.{empty}
use Rattle.plant_books.specs.declared.contents.Contents.{Contents}
use Rattle.plant_books.specs.Sane.{model_of, Sane}
use Rattle.plant_books.proofs.book.Book.new.Goals as goal

pub invariant_of-result : goal.invariant_of-result
invariant_of-result c =
    let blank = MatchOption-at_some (Unit {0}) (λ (b : Contents). Sane b × (model_of b ≡ empty c.in-Some.plant.number)) c.in-Some-2.contents c.in-Some-2.is c.in_ok-contents.ensures.blank in
    record { sane = ∣ blank.0 ∣₁ }
