use Rattle.std.proofs.Common.{◌&&◌, Decides, sym, ap, ◌∙◌, subst}
use Rattle.change.specs.Few.{listed}
use Rattle.change.specs.Membership.{In}
use Rattle.change.specs.Viewed.{viewed}
use Rattle.order.specs.Table.{placed}
use Rattle.shelf.specs.Sane.{changes}
use Rattle.shelf.proofs.FromLines.{from_needs_by_lines, not_from_others}
use Rattle.shelf.proofs.Needing.{contains_tells}
use Rattle.shelf.proofs.Sure.{sane}
use Rattle.shelf.proofs.Shelf.is_from_needs.Goals as goal

pub returns-then-contains : goal.returns-then-contains
returns-then-contains c =
    let L = changes c.args.self.now in
    let v = c.args.view.now in
    let needed = subst (λ n. Decides c.contains.result (In n (listed v.needs))) c.bringer-bringer.ensures (contains_tells (listed v.needs) c.as_slice.result.now c.bringer-bringer.result.0 c.contains.result c.as_slice.ensures c.contains.ensures.cases) in
    ap (λ b. b && c.has.result) (sym c.if-contains.true)
    ∙ from_needs_by_lines L (sane c.args.self.now).listed (viewed v) c.args.view.now.well c.args.line c.contains.result c.has.result needed (c.has.ensures (placed L) (sane c.args.self.now).keeps)

pub returns-else-contains : goal.returns-else-contains
returns-else-contains c =
    let v = c.args.view.now in
    let needed = subst (λ n. Decides c.contains.result (In n (listed v.needs))) c.bringer-bringer.ensures (contains_tells (listed v.needs) c.as_slice.result.now c.bringer-bringer.result.0 c.contains.result c.as_slice.ensures c.contains.ensures.cases) in
    not_from_others (changes c.args.self.now) (viewed v) c.args.line c.contains.result needed c.if-contains.false
