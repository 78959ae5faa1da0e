use Rattle.plant_books.proofs.Sure.{sure_sane}
use Rattle.plant_books.proofs.book.Book.take.Goals as goal

pub take_bytes-requires : goal.take_bytes-requires
take_bytes-requires c = sure_sane c.args.self.now.contents c.args.self.now.sane

pub invariant_of-self : goal.invariant_of-self
invariant_of-self c = record { sane = ∣ c.take_bytes.ensures.sane ∣₁ }

pub returns : goal.returns
returns c = c.take_bytes.ensures.took
