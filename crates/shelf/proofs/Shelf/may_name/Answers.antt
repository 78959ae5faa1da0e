use Rattle.std.proofs.Common.{Decides, ◌∙◌, subst, inl, inr}
use Rattle.change.specs.Viewed.{viewed}
use Rattle.lines.specs.Puts.{Given}
use Rattle.verdict.specs.FromNeeds.{from_needs}
use Rattle.shelf.specs.Sane.{changes}
use Rattle.shelf.proofs.Earlier.{start_end_or_own_is_named, else_from_needs}
use Rattle.shelf.proofs.Shelf.may_name.Goals as goal

pub returns-then-line-lt2 : goal.returns-then-line-lt2
returns-then-line-lt2 c =
    let d = viewed c.args.view.now in
    let own = c.is_given-own.result in
    let tells = subst (λ n. Decides own (Given n c.args.place c.args.line)) c.line.ensures c.is_given-own.ensures in
    start_end_or_own_is_named d (from_needs (changes c.args.self.now) d) c.args.place c.args.line c.requires.within own tells
    (elim c.then-line-lt2.either [ inl low ↦ inl low | inr (high, e) ↦ inr e ])

pub returns : goal.returns
returns c =
    let d = viewed c.args.view.now in
    let own = c.is_given-own.result in
    let tells = subst (λ n. Decides own (Given n c.args.place c.args.line)) c.line.ensures c.is_given-own.ensures in
    c.is_from_needs.ensures
    ∙ else_from_needs d (from_needs (changes c.args.self.now) d) c.args.place c.args.line c.requires.within own tells c.if-line-lt2.false c.if-own.false
