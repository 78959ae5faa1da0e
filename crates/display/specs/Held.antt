-- What a book holds, to be shown: its changes and their lines, which belong together.
-- latest s: the changes that the store s keeps, the latest first. Held s l: they could have come so, and l keeps the order of their lines.
-- Assumes nothing.
use Rattle.std.specs.Prelude.{List, reverse}
use Rattle.change.specs.Model.{Change}
use Rattle.order.specs.Fits.{Listed}
use Rattle.order.specs.Table.{placed}
use Rattle.lines.specs.declared.Lines.{Lines}
use Rattle.lines.specs.Lines.{Keeps}
use Rattle.store.specs.declared.Store.{Store}
use Rattle.store.specs.Kept.{kept}

abbrev pub latest : Store → List Change
latest s = reverse (kept s)

pub record Held (s : Store) (l : Lines) : Type 0 where
  pub listed : Listed (latest s)
  pub keeps : Keeps l (placed (latest s))
