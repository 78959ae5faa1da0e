-- What it is for a block of a sheet to be settled, and what settling it asks of the book.
-- text_on B sheet u: the text of the line u of a sheet of B. blocks_on B sheet: the blocks of a sheet. singles us: each line a block of its own. plain_lines texts: each text on a line of its own.
-- LeadsTo S front a m: by the changes S, the line a stands at or behind all lines of the blocks `front`, and before the line m.
-- Conflict S order a m: a block of two lines or more has exactly the lines of `order`, m is one of them, and a leads to it from what is above.
-- RoomFor B changes lines: the book has room for so many changes with so many lines, and the plant for so many names. NoneAwaited B: nothing that waits needs a change that the plant has yet to make.
-- Settled B A sheet front order news back: in the book A, where in B the blocks `front` and `back` have a block between them, the new lines `news` have the texts of the lines `order` of B, and all else is as it was.
-- Assumes nothing.
use Rattle.std.specs.Prelude.{◌≡◌, ℕ, ◌+◌, ◌<◌, ◌≤◌, List, [], ◌∷◌, ◌++◌, map, length, ◌≢◌}
use Rattle.change.specs.Membership.{In, SameMembers}
use Rattle.change.specs.Model.{Change, count_of, plant_of}
use Rattle.change.specs.WellFormed.{highest_name}
use Rattle.order.specs.Order.{Order, AtOrBefore}
use Rattle.blocks.specs.Relation.{InSome}
use Rattle.blocks.specs.Bytes.{sheet_bytes}
use Rattle.blocks.specs.Sheet.{of_sheet, text_of, sheet_blocks, shown}
use Rattle.history.specs.Book.{Book, change_limit, line_limit, lines_of, next_count}

abbrev pub text_on : Book → ℕ → ℕ → List ℕ
text_on B sheet = text_of (of_sheet sheet B.changes)

abbrev pub blocks_on : Book → ℕ → List (List ℕ)
blocks_on B sheet = sheet_blocks (of_sheet sheet B.changes)

abbrev pub singles : List ℕ → List (List ℕ)
singles [] = []
singles (u ∷ us) = (u ∷ []) ∷ singles us

abbrev pub plain_lines : List (List ℕ) → List ℕ
plain_lines [] = []
plain_lines (text ∷ texts) = (text ++ 10 ∷ []) ++ plain_lines texts

abbrev pub LeadsTo : List Change → List (List ℕ) → ℕ → ℕ → Type 0
LeadsTo S front a m = ((u : ℕ) → InSome u front → AtOrBefore (Order S) u a) × Order S a m

pub record Conflict (S : List Change) (order : List ℕ) (a m : ℕ) : Type 0 where
  pub front : List (List ℕ)
  pub block : List ℕ
  pub back : List (List ℕ)
  pub blocks : sheet_blocks S ≡ front ++ block ∷ back
  pub long : 2 ≤ length block
  pub same : SameMembers order block
  pub member : In m block
  pub leads : LeadsTo S front a m

abbrev pub RoomFor : Book → ℕ → ℕ → Type 0
RoomFor B changes lines =
    (length B.changes + changes ≤ change_limit) × (lines_of B.changes + lines ≤ line_limit) × (next_count B + changes ≤ count_of highest_name + 1)

abbrev pub NoneAwaited : Book → Type 0
NoneAwaited B = (d : Change) → In d B.waiting → (n : ℕ) → In n d.needs → plant_of n ≡ B.plant → count_of n < next_count B

pub record Settled (B A : Book) (sheet : ℕ) (front : List (List ℕ)) (order news : List ℕ) (back : List (List ℕ)) : Type 0 where
  pub blocks : blocks_on A sheet ≡ front ++ (singles news ++ back)
  pub texts : map (text_on A sheet) news ≡ map (text_on B sheet) order
  pub bytes : shown sheet A.changes ≡ sheet_bytes (text_on B sheet) front ++ (plain_lines (map (text_on B sheet) order) ++ sheet_bytes (text_on B sheet) back)
  pub elsewhere : (other : ℕ) → (other ≢ sheet) → shown other A.changes ≡ shown other B.changes
