-- What working out the requests for a conflict comes to, where L are the changes of the book, the latest first.
-- NotSettled L sheet next order: no conflict of the sheet has exactly the lines of `order`, or the plant has not names enough from `next` on.
-- Settles L sheet next order rs: on every book with these changes and this next name, and with room, the requests rs are made one after the other and settle the conflict in the order given.
-- Assumes nothing.
use Rattle.std.specs.Prelude.{◌≡◌, ℕ, ◌+◌, ◌*◌, ◌/◌, ◌<◌, ◌⊎◌, List, length, Ok}
use Rattle.change.specs.Model.{Change}
use Rattle.change.specs.WellFormed.{highest_name}
use Rattle.blocks.specs.Sheet.{of_sheet}
use Rattle.history.specs.Book.{Book, next_name}
use Rattle.history.specs.Sane.{Sane}
use Rattle.making.specs.Request.{Request}
use Rattle.settling.specs.Requests.{new_lines, in_pieces, made_all}
use Rattle.settling.specs.Settled.{Conflict, RoomFor, NoneAwaited, Settled}
use Rattle.conflicts.specs.Found.{NoConflict}

abbrev pub NotSettled : List Change → ℕ → ℕ → List ℕ → Type 0
NotSettled L sheet next order = NoConflict (of_sheet sheet L) order ⊎ (highest_name + 16 < next + length (in_pieces order) * 16)

abbrev pub Settles : List Change → ℕ → ℕ → List ℕ → List Request → Type 0
Settles L sheet next order rs =
    (B : Book) → B.changes ≡ L → next_name B ≡ next → Sane B → B.plant < 16 → NoneAwaited B → RoomFor B ((length order + 29) / 30) (length order) →
    (a : ℕ) × (m : ℕ) × (c : Conflict (of_sheet sheet B.changes) order a m) × (A : Book)
    × (made_all rs B ≡ Ok A) × Sane A × Settled B A sheet c.front order (new_lines next (in_pieces order)) c.back
