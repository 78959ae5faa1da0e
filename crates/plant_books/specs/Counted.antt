-- Counting the changes that wait, one by one.
-- counted_at B n place: the higher of the count n and that of the change of B that waits at a place, if it is the plant's.
-- Assumes nothing.
use Rattle.std.specs.Prelude.{ℕ, Some, None, Option}
use Rattle.std.specs.List.{slice_get}
use Rattle.change.specs.Model.{Change}
use Rattle.history.specs.Book.{Book, counting}

abbrev pub counting_some : ℕ → Option Change → ℕ → ℕ
counting_some plant None n = n
counting_some plant (Some c) n = counting plant c n

abbrev pub counted_at : Book → ℕ → ℕ → ℕ
counted_at B n place = counting_some B.plant (slice_get B.waiting place) n
