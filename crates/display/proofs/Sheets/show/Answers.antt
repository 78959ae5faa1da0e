use Rattle.std.proofs.Common.{ℕ, ◌≡◌, vec_items, sym, ◌∙◌, subst, ap₂}
use Rattle.std.proofs.lemmas.Result.{IfOk-weaker}
use Rattle.std.specs.List.{list_all}
use Rattle.blocks.specs.Sheet.{of_sheet, unkilled}
use Rattle.sheet.specs.Lines.{numbers, line_inside, Distinct}
use Rattle.display.specs.Added.{spared}
use Rattle.display.specs.Held.{latest}
use Rattle.display.proofs.Shown.{shows_same_lines, all_distinct, shows_sheet}
use Rattle.display.proofs.Sure.{held}
use Rattle.display.proofs.Sheets.show.Goals as goal

pub show-requires : goal.show-requires
show-requires c =
    let g = c.in_ok-living.living in
    let gives = c.in_ok-living.ensures in
    let ks = c.deref.result.now in
    let same = subst (λ ls. (u : ℕ) → spared ls u ≡ unkilled (of_sheet c.args.sheet.0 (latest c.args.self.now.store.now)) u) (sym c.deref.ensures.value) c.in_ok-struck_out.ensures.spared in
    record {
      distinct = subst (λ ls. Distinct (numbers ls)) (sym c.deref-2.ensures.value) (all_distinct c.args.self.now.store.now c.args.self.now.lines.now (held c.args.self.now) c.args.sheet.0 ks g same gives);
      inside = ap₂ (λ area ls. list_all (line_inside area) ls) c.deref-3.ensures.value c.deref-2.ensures.value ∙ gives.inside;
    }

pub returns : goal.returns
returns c =
    let g = c.in_ok-living.living in
    let lines = c.args.self.now.lines.now in
    let ks = c.deref.result.now in
    let same = subst (λ ls. (u : ℕ) → spared ls u ≡ unkilled (of_sheet c.args.sheet.0 (latest c.args.self.now.store.now)) u) (sym c.deref.ensures.value) c.in_ok-struck_out.ensures.spared in
    IfOk-weaker c.show.result _ _
    (λ out shows.
    shows_sheet c.args.self.now.store.now lines (held c.args.self.now) c.args.sheet.0 ks g same c.in_ok-living.ensures (vec_items out)
    (shows_same_lines c.table.result.now lines.table c.deref-2.result.now (vec_items g.lines) c.deref-3.result.now (vec_items g.texts) (vec_items out) c.table.ensures c.deref-2.ensures.value c.deref-3.ensures.value shows))
    c.show.ensures.alike
