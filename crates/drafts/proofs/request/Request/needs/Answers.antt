use Rattle.std.proofs.Common.{map, filter, vec_items, ◌∙◌, ap₂}
use Rattle.std.proofs.lemmas.Result.{IfOk-weaker}
use Rattle.change.specs.Model.{bringer}
use Rattle.making.specs.Sorted.{sorted}
use Rattle.drafts.specs.Named.{is_foreign_to}
use Rattle.drafts.specs.Needs.{lines_in}
use Rattle.drafts.proofs.Bringing.{needs_by_parts}
use Rattle.drafts.proofs.request.Request.needs.Goals as goal

pub returns : goal.returns
returns c =
    let name = c.args.name.0 in
    let d = c.args.self.now in
    let same = ap₂ (λ adds kills. sorted (map (λ line. bringer line.0) (filter (λ line. is_foreign_to name line.0) (lines_in adds kills)))) c.deref.ensures.value c.deref-2.ensures.value in
    IfOk-weaker c.bringers.result _ _ (λ v e. e ∙ same ∙ needs_by_parts name d.sheet.0 (vec_items d.texts) (vec_items d.adds) (vec_items d.kills)) c.bringers.ensures
