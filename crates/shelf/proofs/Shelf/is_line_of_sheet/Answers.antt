use Rattle.std.proofs.Common.{sym, ap, ◌∙◌}
use Rattle.shelf.specs.Relating.{is_of_sheet}
use Rattle.shelf.specs.Sane.{changes}
use Rattle.shelf.proofs.Answering.{unknown_is_of_any_sheet, known_is_of_its_sheet}
use Rattle.shelf.proofs.Sure.{sane}
use Rattle.shelf.proofs.Shelf.is_line_of_sheet.Goals as goal

pub returns-then-not-has_line : goal.returns-then-not-has_line
returns-then-not-has_line c =
    unknown_is_of_any_sheet (changes c.args.self.now) (sane c.args.self.now).listed c.args.line.0 c.args.sheet.0 (sym c.has_line.ensures ∙ c.if-not-has_line.true)

pub returns : goal.returns
returns c =
    c.is_of_sheet.ensures ∙ ap (is_of_sheet (changes c.args.self.now) c.args.sheet.0) c.bringer.ensures
    ∙ known_is_of_its_sheet (changes c.args.self.now) (sane c.args.self.now).listed c.args.line.0 c.args.sheet.0 (sym c.has_line.ensures ∙ c.if-not-has_line.false)
