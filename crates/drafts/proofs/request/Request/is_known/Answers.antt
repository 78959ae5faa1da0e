use Rattle.std.proofs.Common.{◌&&◌, vec_items, sym, ap, ◌∙◌}
use Rattle.std.specs.List.{list_all, enumerate_from}
use Rattle.shelf.specs.Sane.{changes}
use Rattle.drafts.specs.Lines.{is_here, may_name_both}
use Rattle.drafts.proofs.Naming.{known_line_by_line}
use Rattle.drafts.proofs.request.Request.is_known.Goals as goal

pub returns-then-are_adds_known : goal.returns-then-are_adds_known
returns-then-are_adds_known c =
    let L = changes c.args.upcoming.now.shelf.now in
    let d = c.args.self.now in
    let adds = c.are_adds_known.ensures ∙ ap (λ adds. list_all (λ p. may_name_both L c.args.upcoming.now.name.0 p.0 p.1) (enumerate_from 0 adds)) c.deref.ensures.value in
    c.are_here.ensures ∙ ap (list_all (is_here L)) c.deref-then-are_adds_known.ensures.value ∙ ap (λ b. b && list_all (is_here L) (vec_items d.kills)) (sym c.if-are_adds_known.true ∙ adds)
    ∙ known_line_by_line L c.args.upcoming.now.name.0 d.sheet.0 (vec_items d.texts) (vec_items d.adds) (vec_items d.kills)

pub returns-else-are_adds_known : goal.returns-else-are_adds_known
returns-else-are_adds_known c =
    let L = changes c.args.upcoming.now.shelf.now in
    let d = c.args.self.now in
    let adds = c.are_adds_known.ensures ∙ ap (λ adds. list_all (λ p. may_name_both L c.args.upcoming.now.name.0 p.0 p.1) (enumerate_from 0 adds)) c.deref.ensures.value in
    c.if-are_adds_known.false ∙ ap (λ b. b && list_all (is_here L) (vec_items d.kills)) (sym c.if-are_adds_known.false ∙ adds)
    ∙ known_line_by_line L c.args.upcoming.now.name.0 d.sheet.0 (vec_items d.texts) (vec_items d.adds) (vec_items d.kills)
