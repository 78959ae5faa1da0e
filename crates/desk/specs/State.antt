-- What is on a desk, to the theory: a book, and what its writer asks for.
-- state_with b r: that of the book b and the request r. state_of d: that of the desk d. begun sheet: a writer has said nothing yet, on this sheet.
-- Assumes nothing.
use Rattle.std.specs.Prelude.{ℕ, []}
use Rattle.history.specs.Book as histories
use Rattle.making.specs.Request as making
use Rattle.drafts.specs.declared.request.Request.{Request}
use Rattle.drafts.specs.Asked.{asked_by}
use Rattle.plant_books.specs.declared.book.Book.{Book}
use Rattle.plant_books.specs.Books.{book_of}
use Rattle.desk.specs.declared.Desk.{Desk}

pub record State : Type 0 where
  pub book : histories.Book
  pub request : making.Request

abbrev pub state_with : Book → Request → State
state_with b r = record { book = book_of b; request = asked_by r }

abbrev pub state_of : Desk → State
state_of d = state_with d.book d.request

abbrev pub begun : ℕ → making.Request
begun sheet = record { sheet = sheet; adds = []; kills = [] }
