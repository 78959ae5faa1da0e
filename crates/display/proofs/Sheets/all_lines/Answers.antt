use Rattle.std.proofs.Common.{IfOk, subst}
use Rattle.std.specs.List.{flat_map}
use Rattle.lines.specs.Lines.{numbers_of}
use Rattle.blocks.specs.Sheet.{of_sheet}
use Rattle.display.specs.Added.{added_by, sparing}
use Rattle.display.specs.Gathered.{Gives}
use Rattle.display.specs.Held.{latest}
use Rattle.display.proofs.Sheets.all_lines.Goals as goal

pub returns : goal.returns
returns c =
    let sheets = c.args.self.now in
    subst (λ ks. IfOk c.living_lines.result (λ g. Gives (numbers_of sheets.lines.now) g (sparing ks (flat_map added_by (of_sheet c.args.sheet.0 (latest sheets.store.now)))))) c.none.ensures c.living_lines.ensures
