-- A shelf with room for every book, so that no change is turned away for want of memory.
-- book_bytes: the bytes that the changes of a book have at most. Roomy s: the store s has room for every book.
-- Assumes nothing.
use Rattle.std.specs.Prelude.{ℕ, ◌+◌, ◌*◌, ◌≤◌}
use Rattle.store.specs.declared.Store.{Store}
use Rattle.store.specs.Room.{most, space}
use Rattle.history.specs.Book.{change_limit, line_limit}

-- a change has at most 393 bytes besides those of its adds, and an add at most 129
abbrev pub book_bytes : ℕ
book_bytes = 393 * change_limit + 129 * line_limit

pub record Roomy (s : Store) : Type 0 where
  pub most : change_limit ≤ most s
  pub space : book_bytes ≤ space s
