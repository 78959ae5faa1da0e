use Rattle.std.proofs.Common.{◌≡◌, ℕ, Bool, ◌&&◌, List, sym, ap, ◌∙◌, ap₂}
use Rattle.std.proofs.lemmas.Bool.{and_left, and_right}
use Rattle.std.specs.List.{list_all}
use Rattle.change.specs.Model.{Change}
use Rattle.change.specs.Viewed.{viewed}
use Rattle.verdict.specs.FromNeeds.{from_needs}
use Rattle.verdict.specs.Verdict.{one_sheet}
use Rattle.shelf.specs.Relating.{is_of_sheet}
use Rattle.shelf.specs.Sane.{changes}
use Rattle.shelf.proofs.Sheets.{one_sheet_by_needs}
use Rattle.shelf.proofs.Shelf.related.Goals as goal

-- what the test of the needs answers
one_sheet_lem : (L : List Change) (c : Change) (slice : List ℕ) (r : Bool) → slice ≡ c.needs → r ≡ list_all (is_of_sheet L c.sheet) slice → one_sheet L c ≡ r
one_sheet_lem L c slice r same is = sym (is ∙ ap (list_all (is_of_sheet L c.sheet)) same ∙ one_sheet_by_needs L c)

pub returns-then-not-all_of_sheet : goal.returns-then-not-all_of_sheet
returns-then-not-all_of_sheet c =
    let sheet = one_sheet_lem (changes c.args.self.now) (viewed c.args.view.now) c.as_slice.result.now c.all_of_sheet.result c.as_slice.ensures c.all_of_sheet.ensures in
    sym (and_left _ _ (sheet ∙ c.if-not-all_of_sheet.true))

pub returns-then-are_adds_named : goal.returns-then-are_adds_named
returns-then-are_adds_named c =
    let L = changes c.args.self.now in
    let d = viewed c.args.view.now in
    let sheet = one_sheet_lem L d c.as_slice.result.now c.all_of_sheet.result c.as_slice.ensures c.all_of_sheet.ensures in
    c.all_from_needs.ensures ∙ ap (list_all (from_needs L d)) c.as_slice-then-are_adds_named.ensures
    ∙ ap₂ (λ x y. x && (y && list_all (from_needs L d) d.kills)) (sym (sheet ∙ c.if-not-all_of_sheet.false)) (sym c.if-are_adds_named.true ∙ c.are_adds_named.ensures)

pub returns-else-are_adds_named : goal.returns-else-are_adds_named
returns-else-are_adds_named c =
    let L = changes c.args.self.now in
    let d = viewed c.args.view.now in
    c.if-are_adds_named.false ∙ sym (and_right (one_sheet L d) _ (and_left _ (list_all (from_needs L d) d.kills) (sym c.are_adds_named.ensures ∙ c.if-are_adds_named.false)))
