-- A book in memory, and the book that it is to the theory.
-- model_of b: that book. Sane b: what waits is sound, and the book is orderly. Whether what waits may be ready is not said: where trying it stopped early, for want of room, it may.
-- Assumes nothing.
use Rattle.shelf.specs.Sane.{changes}
use Rattle.waiting.specs.Waiting.{waits, Whole}
use Rattle.history.specs.Book as model
use Rattle.history.specs.Sane.{Orderly}
use Rattle.books.specs.declared.Book.{Book}

abbrev pub model_of : Book → model.Book
model_of b = record { plant = b.plant; highest = b.highest; changes = changes b.shelf; waiting = waits b.waiting }

pub record Sane (b : Book) : Type 0 where
  pub waiting : Whole b.waiting
  pub orderly : Orderly (model_of b)
