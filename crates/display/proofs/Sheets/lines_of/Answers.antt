use Rattle.std.proofs.Common.{ℕ, ◌≡◌, map, vec_items, sym, ap, ◌∙◌, subst, rules}
use Rattle.std.proofs.lemmas.List.Sorted.{IsNonDecreasingBy-from_sort_by_key}
use Rattle.lines.specs.Lines.{numbers_of}
use Rattle.blocks.specs.Sheet.{of_sheet, unkilled}
use Rattle.blocks.proofs.Sheets.{sheet_listed}
use Rattle.display.specs.Added.{spared}
use Rattle.display.specs.declared.listing.ListedLine.{ListedLine}
use Rattle.display.specs.Held.{latest}
use Rattle.display.specs.Listing.{listed_from}
use Rattle.display.proofs.Listed.{numbers_rise, all_listed, all_told}
use Rattle.display.proofs.Sure.{held}
use Rattle.display.proofs.Sheets.lines_of.Goals as goal

pub returns : goal.returns
returns c =
    let L = latest c.args.self.now.store.now in
    let S = of_sheet c.args.sheet.0 L in
    let ns = numbers_of c.args.self.now.lines.now in
    let own = sheet_listed L (held c.args.self.now).listed c.args.sheet.0 in
    let ks = c.deref.result.now in
    let same = subst (λ ls. (u : ℕ) → spared ls u ≡ unkilled S u) (sym c.deref.ensures.value) c.in_ok-struck_out.ensures.spared in
    let ls = vec_items c.in_ok-lines.lines in
    let sorted = vec_items c.sort_unstable_by_key.new.self in
    let is = c.in_ok-lines.ensures ∙ ap (map (listed_from ks)) c.deref-2.ensures.value in
    let shuffled = c.sort_unstable_by_key.ensures.permutation in
    record {
      rising = numbers_rise sorted (IsNonDecreasingBy-from_sort_by_key (λ (a : ListedLine). a.number.0) _ c.sort_unstable_by_key.ensures.sorted (λ a r q k. search rules));
      all = all_listed ns S own c.in_ok-all.all c.in_ok-all.ensures ks same ls sorted is shuffled;
      each = all_told ns S own c.in_ok-all.all c.in_ok-all.ensures ks same ls sorted is shuffled;
    }
