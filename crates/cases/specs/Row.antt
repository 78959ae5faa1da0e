-- What a row of the table of worked cases says, as a fact and as a test that computes.
-- shows changes sheet bytes: these changes, the latest first, can have come so, and what is shown of the sheet are these bytes.
-- plays steps text: an empty book, played so, answers so.
-- Holds r: what the row r says. holds r: the test for it.
-- Assumes nothing.
use Rattle.std.specs.Prelude.{◌≡◌, ℕ, Bool, ◌&&◌, List}
use Rattle.std.specs.Str.{bytes_eq}
use Rattle.change.specs.Model.{Change}
use Rattle.order.specs.Fits.{Listed}
use Rattle.blocks.specs.Sheet.{shown}
use Rattle.verdict.specs.Verdict.{listed}
use Rattle.history.specs.Book.{empty}
use Rattle.cases.specs.Play.{Step, played}

pub data Row : Type 0 where
  shows : List Change → ℕ → List ℕ → Row
  plays : List Step → List ℕ → Row

abbrev pub Holds : Row → Type 0
Holds (shows changes sheet bytes) = Listed changes × (shown sheet changes ≡ bytes)
Holds (plays steps text) = played (empty 0) steps ≡ text

abbrev pub holds : Row → Bool
holds (shows changes sheet bytes) = listed changes && bytes_eq (shown sheet changes) bytes
holds (plays steps text) = bytes_eq (played (empty 0) steps) text
