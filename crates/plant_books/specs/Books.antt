-- A book, and the book that it is to the theory.
-- Assumes nothing.
use Rattle.history.specs.Book as model
use Rattle.plant_books.specs.declared.book.Book.{Book}
use Rattle.plant_books.specs.Sane.{model_of}

abbrev pub book_of : Book → model.Book
book_of b = model_of b.contents
