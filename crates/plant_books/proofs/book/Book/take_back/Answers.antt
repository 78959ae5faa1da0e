use Rattle.plant_books.proofs.Sure.{sure_sane}
use Rattle.plant_books.proofs.book.Book.take_back.Goals as goal

pub take_back-requires : goal.take_back-requires
take_back-requires c = sure_sane c.args.self.now.contents c.args.self.now.sane

pub invariant_of-self : goal.invariant_of-self
invariant_of-self c = record { sane = ∣ c.take_back.ensures.sane ∣₁ }
