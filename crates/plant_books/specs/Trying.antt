-- Trying the next of the changes that wait.
-- highest_after o plant c n: the highest count after an outcome. Tried B A r: of the book B, which then is A, with the answer r: nothing was ready, or the next was tried.
-- Assumes nothing.
use Rattle.std.specs.Prelude.{◌≡◌, ℕ, Some, None, Option}
use Rattle.change.specs.Model.{Change}
use Rattle.history.specs.declared.Event.{Event}
use Rattle.history.specs.declared.Outcome.{Outcome}
use Rattle.history.specs.declared.Outcome.TheVariants.{Taken, Waits, Refused}
use Rattle.history.specs.Book.{Book, counting}
use Rattle.history.specs.Taking.{event, admitted, lowest_ready, tried}

abbrev pub highest_after : Outcome → ℕ → Change → ℕ → ℕ
highest_after Taken plant c n = counting plant c n
highest_after Waits plant c n = n
highest_after (Refused r) plant c n = n

abbrev pub Tried : Book → Book → Option Event → Type 0
Tried B A None = (lowest_ready B ≡ None) × (A ≡ B)
Tried B A (Some e) = (c : Change) × (lowest_ready B ≡ Some c) × (e ≡ event c.name (admitted B c)) × (A ≡ tried B c)
