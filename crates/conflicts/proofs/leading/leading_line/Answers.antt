use Rattle.std.proofs.Common.{sym, refl, inl, ◌∙◌, rules, tests}
use Rattle.std.proofs.lemmas.Iterator.{YieldsList-from_slice}
use Rattle.std.proofs.lemmas.Iterator.Search.{find_from_yields_List}
use Rattle.table.specs.Held.{held}
use Rattle.sheet.specs.declared.line.LineAt.{LineAt}
use Rattle.conflicts.specs.Leading.{leads_from}
use Rattle.conflicts.proofs.FirstLeading.{first_leads}
use Rattle.conflicts.proofs.leading.leading_line.Goals as goal

pub returns-then-leads : goal.returns-then-leads
returns-then-leads c = inl (refl, sym c.leads.ensures ∙ c.if-leads.true)

pub returns : goal.returns
returns c =
    let R = held c.args.table.now in
    let above = c.args.above.now in
    let found = find_from_yields_List (λ (a : LineAt). leads_from R above c.args.before a.slot) _ _ c.find.result c.find.ensures.ran (YieldsList-from_slice c.args.lines.now cc) (λ x b q k. search (rules, tests)) in
    first_leads R above c.args.before c.args.lines.now (sym c.leads.ensures ∙ c.if-leads.false) c.find.result c.map.result found c.map.ensures.cases (λ b u e. search rules)
