-- That the rows hold: one test over the whole table, which the checker computes, and what a test that passes says of its row.
-- Assumes nothing.
use Rattle.std.proofs.Common.{◌≡◌, true, Decides, refl}
use Rattle.std.specs.Fmt.{digits}
use Rattle.std.proofs.lemmas.Slice.Eq.{bytes_eq-Decides}
use Rattle.std.proofs.lemmas.Bool.Decides.{Decides-and}
use Rattle.std.specs.List.{list_all}
use Rattle.order.proofs.Deciding.{decides_every}
use Rattle.blocks.specs.Sheet.{shown}
use Rattle.verdict.proofs.Fitting.{listed_decided}
use Rattle.history.specs.Book.{empty}
use Rattle.cases.specs.Play.{played}
use Rattle.cases.specs.Row.{Row, shows, plays, Holds, holds}
use Rattle.cases.specs.Rows.{rows, WorkedCases}

decides_row : (r : Row) → Decides (holds r) (Holds r)
decides_row (shows changes sheet bytes) = Decides-and _ _ (listed_decided changes) (bytes_eq-Decides (shown sheet changes) bytes)
decides_row (plays steps text) = bytes_eq-Decides (played (empty 0) steps) text

all_pass : list_all holds rows ≡ true
unfolding digits
all_pass = refl

pub worked_cases : WorkedCases
worked_cases = (decides_every holds Holds decides_row rows).0 all_pass
