use Rattle.plant_books.proofs.Sure.{sure_sane}
use Rattle.plant_books.proofs.book.Book.make.Goals as goal

pub make-requires : goal.make-requires
make-requires c = sure_sane c.args.self.now.contents c.args.self.now.sane

pub invariant_of-self : goal.invariant_of-self
invariant_of-self c = record { sane = ∣ c.make.ensures.sane ∣₁ }

pub returns : goal.returns
returns c = record { named = c.make.ensures.named; made = c.make.ensures.made }
