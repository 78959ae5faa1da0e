use Rattle.std.proofs.Common.{◌∙◌}
use Rattle.shelf.specs.Sane.{changes}
use Rattle.shelf.proofs.Sheets.{found_tells_sheet, none_is_of_another_sheet}
use Rattle.shelf.proofs.Sure.{sane}
use Rattle.shelf.proofs.Shelf.is_of_sheet.Goals as goal

pub returns-in-Some : goal.returns-in-Some
returns-in-Some c = c.eq.ensures ∙ found_tells_sheet (changes c.args.self.now) c.args.sheet.0 (sane c.args.self.now).listed c.args.name.0 c.in-Some.found c.in-Some.ensures

pub returns-in-None : goal.returns-in-None
returns-in-None c = none_is_of_another_sheet (changes c.args.self.now) c.args.sheet.0 c.args.name.0 c.in-None.ensures
