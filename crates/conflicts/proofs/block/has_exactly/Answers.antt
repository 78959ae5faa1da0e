use Rattle.std.proofs.Common.{◌≡◌, true, false, Decides, sym, ◌∙◌, subst}
use Rattle.std.proofs.lemmas.Bool.Decides.{Decides-like}
use Rattle.change.specs.Membership.{Within}
use Rattle.sheet.specs.Lines.{numbers}
use Rattle.conflicts.proofs.Members.{decides_have_lines, decides_numbered}
use Rattle.conflicts.proofs.block.has_exactly.Goals as goal

pub returns-then-all_have_lines : goal.returns-then-all_have_lines
returns-then-all_have_lines c =
    let ls = c.args.lines.now in
    let order = c.args.order.now in
    let within = (decides_have_lines order ls).0 (sym c.all_have_lines.ensures ∙ c.if-all_have_lines.true) in
    Decides-like _ (λ w. (within, w)) (λ same. same.1) (subst (λ b. Decides b (Within (numbers ls) order)) (sym c.all_numbered.ensures) (decides_numbered ls order))

pub returns-else-all_have_lines : goal.returns-else-all_have_lines
returns-else-all_have_lines c = (
  λ e. let both : true ≡ false = sym e ∙ c.if-all_have_lines.false in cc,
  λ same. c.all_have_lines.ensures ∙ (decides_have_lines c.args.order.now c.args.lines.now).1 same.0,
)
