use Rattle.std.proofs.Common.{◌≡◌, ap, ◌∙◌, arith}
use Rattle.std.proofs.lemmas.Bool.Decides.{nat_tests}
use Rattle.std.specs.Option.{option_to_list}
use Rattle.store.specs.Kept.{kept}
use Rattle.display.proofs.OfSheet.{no_change, same_sheet}
use Rattle.display.proofs.changes.change_of.Goals as goal

pub returns-in_err-sheet : goal.returns-in_err-sheet
returns-in_err-sheet c = rw c.from_residual.ensures (no_change c.args.sheet.0 (kept c.args.store.now) c.args.place c.in_err-sheet.ensures)

pub returns : goal.returns
returns c =
    let same : c.in_ok-sheet.field-0.0 ≡ c.args.sheet.0 = grind (arith, nat_tests, c.if-ne.ensures) in
    ap option_to_list c.get.ensures ∙ same_sheet c.args.sheet.0 (kept c.args.store.now) c.args.place c.in_ok-sheet.field-0.0 c.in_ok-sheet.ensures same
