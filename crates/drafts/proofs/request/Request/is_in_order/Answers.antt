use Rattle.std.proofs.Common.{take, vec_items, ap, ◌∙◌}
use Rattle.std.specs.List.{list_all, enumerate_from}
use Rattle.shelf.specs.Sane.{changes}
use Rattle.drafts.specs.Puts.{goes_behind}
use Rattle.drafts.proofs.Ordering.{ordered_line_by_line}
use Rattle.drafts.proofs.request.Request.is_in_order.Goals as goal

pub returns : goal.returns
returns c =
    let L = changes c.args.upcoming.now.shelf.now in
    let d = c.args.self.now in
    c.are_in_order.ensures ∙ ap (λ adds. list_all (λ p. goes_behind L c.args.upcoming.now.name.0 (take p.0 adds) p.1) (enumerate_from 0 adds)) c.deref.ensures.value
    ∙ ordered_line_by_line L c.args.upcoming.now.name.0 d.sheet.0 (vec_items d.texts) (vec_items d.adds) (vec_items d.kills)
