-- Whole histories of a book.
-- Later A B: the book A becomes B by taking changes and taking them back.
-- Assumes nothing.
use Rattle.std.specs.Prelude.{◌≡◌, ℕ, true}
use Rattle.change.specs.Model.{Change}
use Rattle.change.specs.WellFormed.{well_formed}
use Rattle.history.specs.Book.{Book}
use Rattle.history.specs.Taking.{take, take_back}

pub data Later (A : Book) : Book → Type 0 where
  now : Later A A
  took : (B : Book) → Later A B → (c : Change) → well_formed c ≡ true → Later A (take B c).1
  took_back : (B : Book) → Later A B → (n : ℕ) → Later A (take_back B n)
