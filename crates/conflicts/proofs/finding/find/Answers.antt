use Rattle.std.proofs.Common.{vec_items}
use Rattle.blocks.specs.Sheet.{of_sheet}
use Rattle.blocks.proofs.Sheets.{sheet_listed}
use Rattle.display.specs.Held.{latest}
use Rattle.display.proofs.Sure.{held}
use Rattle.conflicts.proofs.Settling.{all_written}
use Rattle.conflicts.proofs.Ended.{has_texts, none_found, one_found}
use Rattle.conflicts.proofs.finding.find.Goals as goal

pub returns-in_default : goal.returns-in_default
returns-in_default c =
    none_found c.args.sheets.now.store.now c.args.sheets.now.lines.now (held c.args.sheets.now) c.args.sheet.0 (vec_items c.in_ok-shown.shown) c.in_ok-shown.ensures c.in_ok-all.all c.in_ok-all.ensures
    c.table.result.now c.deref.result.now c.deref-2.result.now c.args.order.now c.table.ensures c.deref.ensures.value c.deref-2.ensures.value
    c.in_default.ensures

pub invariant_of-result : goal.invariant_of-result
invariant_of-result c =
    let has =
    has_texts c.args.sheets.now.store.now c.args.sheets.now.lines.now (held c.args.sheets.now) c.args.sheet.0 (vec_items c.in_ok-shown.shown) c.in_ok-shown.ensures c.in_ok-all.all c.in_ok-all.ensures in
    let S = of_sheet c.args.sheet.0 (latest c.args.sheets.now.store.now) in
    record { inside = has.inside; written = all_written S (sheet_listed (latest c.args.sheets.now.store.now) (held c.args.sheets.now).listed c.args.sheet.0) c.in_ok-all.all has }

pub returns : goal.returns
returns c =
    record {
      conflict =
          one_found c.args.sheets.now.store.now c.args.sheets.now.lines.now (held c.args.sheets.now) c.args.sheet.0 (vec_items c.in_ok-shown.shown) c.in_ok-shown.ensures c.in_ok-all.all c.in_ok-all.ensures
          c.table.result.now c.deref.result.now c.deref-2.result.now c.args.order.now c.table.ensures c.deref.ensures.value c.deref-2.ensures.value
          c.in-Some.ends c.in-Some.ensures;
      texts = has_texts c.args.sheets.now.store.now c.args.sheets.now.lines.now (held c.args.sheets.now) c.args.sheet.0 (vec_items c.in_ok-shown.shown) c.in_ok-shown.ensures c.in_ok-all.all c.in_ok-all.ensures;
    }
