use Rattle.plant_books.specs.Books.{book_of}
use Rattle.desk.proofs.Desk.add.Goals as goal

pub returns : goal.returns
returns c = c.add.ensures (book_of c.args.self.now.book)
