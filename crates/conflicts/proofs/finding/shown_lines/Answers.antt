use Rattle.std.proofs.Common.{ℕ, ◌≡◌, vec_items, sym, subst}
use Rattle.blocks.specs.Sheet.{of_sheet, unkilled}
use Rattle.sheet.specs.Lines.{numbers, Distinct}
use Rattle.display.specs.Added.{spared}
use Rattle.display.specs.Held.{latest}
use Rattle.display.proofs.Sure.{held}
use Rattle.display.proofs.Shown.{all_distinct}
use Rattle.conflicts.proofs.Walked.{walks_living}
use Rattle.conflicts.proofs.finding.shown_lines.Goals as goal

pub walked-requires : goal.walked-requires
walked-requires c =
    let ks = c.deref.result.now in
    let same = subst (λ ls. (u : ℕ) → spared ls u ≡ unkilled (of_sheet c.args.sheet.0 (latest c.args.sheets.now.store.now)) u) (sym c.deref.ensures.value) c.in_ok-struck_out.ensures.spared in
    record {
      distinct = subst (λ ls. Distinct (numbers ls)) (sym c.deref-2.ensures.value)
          (all_distinct c.args.sheets.now.store.now c.args.sheets.now.lines.now (held c.args.sheets.now) c.args.sheet.0 ks c.in_ok-living.living same c.in_ok-living.ensures);
    }

pub returns : goal.returns
returns c =
    let ks = c.deref.result.now in
    let same = subst (λ ls. (u : ℕ) → spared ls u ≡ unkilled (of_sheet c.args.sheet.0 (latest c.args.sheets.now.store.now)) u) (sym c.deref.ensures.value) c.in_ok-struck_out.ensures.spared in
    walks_living c.args.sheets.now.store.now c.args.sheets.now.lines.now (held c.args.sheets.now) c.args.sheet.0 ks c.in_ok-living.living same c.in_ok-living.ensures
    c.table.result.now c.deref-2.result.now (vec_items c.in_ok-shown.shown) c.table.ensures c.deref-2.ensures.value
    c.in_ok-shown.ensures.only c.in_ok-shown.ensures.is
