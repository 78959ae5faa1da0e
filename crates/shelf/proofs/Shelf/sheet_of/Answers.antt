use Rattle.store.specs.Kept.{kept}
use Rattle.shelf.proofs.Finding.{none_has_the_name}
use Rattle.shelf.proofs.Sheets.{sheet_found}
use Rattle.shelf.proofs.Shelf.sheet_of.Goals as goal

pub returns-in_err-place : goal.returns-in_err-place
returns-in_err-place c = rw c.from_residual.ensures (none_has_the_name (kept c.args.self.now.store) c.args.name.0 c.in_err-place.ensures)

pub returns : goal.returns
returns c = sheet_found (kept c.args.self.now.store) c.args.name.0 c.in_ok-place.place c.in_ok-place.ensures c.sheet.result c.sheet.ensures
