-- What the changes of a book and the order of their lines are to one another.
-- changes_in store: the changes, the latest first. slot_count: how many slots their lines have. Together store lines: the changes fit one after the other as they came, the lines are theirs, and no limit is passed.
-- Assumes nothing.
use Rattle.std.specs.Prelude.{◌≡◌, ℕ, ◌+◌, ◌≤◌, List, reverse, length}
use Rattle.change.specs.Model.{Change}
use Rattle.order.specs.Table.{placed}
use Rattle.order.specs.Fits.{Listed}
use Rattle.lines.specs.declared.Lines.{Lines}
use Rattle.lines.specs.Lines.{numbers_of, Keeps}
use Rattle.store.specs.declared.Store.{Store}
use Rattle.store.specs.Kept.{kept}
use Rattle.history.specs.Book.{change_limit, line_limit, lines_of}

abbrev pub changes_in : Store → List Change
changes_in store = reverse (kept store)

-- the start, the end, each line that a book may have, and the 64 of one change more, which are put before it is known whether it comes in
abbrev pub slot_count : ℕ
slot_count = 2 + (line_limit + 64)

pub record Together (store : Store) (lines : Lines) : Type 0 where
  pub listed : Listed (changes_in store)
  pub keeps : Keeps lines (placed (changes_in store))
  pub slots : length (numbers_of lines) ≡ slot_count
  pub few : length (changes_in store) ≤ change_limit
  pub few_lines : lines_of (changes_in store) ≤ line_limit
