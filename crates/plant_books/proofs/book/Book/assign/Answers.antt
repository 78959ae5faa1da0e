use Rattle.plant_books.proofs.Sure.{sure_sane}
use Rattle.plant_books.proofs.book.Book.assign.Goals as goal

pub assign-requires : goal.assign-requires
assign-requires c = sure_sane c.args.self.now.contents c.args.self.now.sane

pub invariant_of-self : goal.invariant_of-self
invariant_of-self c = record { sane = ∣ c.assign.ensures.sane ∣₁ }
