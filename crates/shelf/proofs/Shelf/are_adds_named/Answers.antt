use Rattle.std.proofs.Common.{ℕ, Bool, length, ap, ap₂, ◌∙◌, arith, rules, tests}
use lib.ListN.{length-map}
use Rattle.std.specs.List.{list_all, enumerate_from}
use Rattle.std.proofs.lemmas.Iterator.{YieldsList-from_slice}
use Rattle.std.proofs.lemmas.Iterator.Adapters.{serves_from_places}
use Rattle.std.proofs.lemmas.Iterator.Consumers.{YieldsList-from_enumerate}
use Rattle.std.proofs.lemmas.Iterator.Search.{all_from_yields_List}
use Rattle.std.proofs.lemmas.List.FromFn.{length-enumerate_from, get_or-enumerate_from}
use Rattle.change.specs.declared.add.AddView.{AddView}
use Rattle.change.specs.Few.{listed}
use Rattle.change.specs.Model.{Change, line_of}
use Rattle.change.specs.View.{no_add, add_seen}
use Rattle.change.specs.Viewed.{viewed}
use Rattle.verdict.specs.FromNeeds.{from_needs}
use Rattle.shelf.specs.Relating.{earlier, are_named}
use Rattle.shelf.specs.Sane.{changes}
use Rattle.shelf.proofs.Naming.{nowhere, put_has_the_lines, named_by_places}
use Rattle.shelf.proofs.Shelf.are_adds_named.Goals as goal

-- the add at a place may name both of its lines
abbrev named_at : (ℕ → Bool) → Change → ℕ × AddView → Bool
named_at from d p = are_named from (earlier d p.0) p.1.after.0 p.1.before.0

pub all-requires-clause-callable : goal.all-requires-clause-callable
all-requires-clause-callable c =
    let v = c.args.view.now in
    let slice = c.as_slice.result.now in
    serves_from_places (YieldsList-from_enumerate (YieldsList-from_slice slice (cc)) (cc)) (λ x q k. search rules)
    (λ x k less at.
    let counted = length-enumerate_from 0 slice in
    let place = ap (λ p. p.0) (at ∙ get_or-enumerate_from 0 slice k (x.0, x.1.now) (omega arith)) in
    omega (arith, length-map (listed v.adds) add_seen, ap length c.as_slice.ensures))

pub returns : goal.returns
returns c =
    let v = c.args.view.now in
    let slice = c.as_slice.result.now in
    let from = from_needs (changes c.args.self.now) (viewed v) in
    let test = named_at from (viewed v) in
    all_from_yields_List test _ _ c.all.result c.all.ensures.ran (YieldsList-from_enumerate (YieldsList-from_slice slice (cc)) (cc)) (λ x b q k. search (rules, tests))
    ∙ ap (λ adds. list_all test (enumerate_from 0 adds)) c.as_slice.ensures
    ∙ named_by_places from add_seen no_add (line_of v.name.0 0) (listed v.adds) test
    (λ i less. let (after, before) = put_has_the_lines add_seen nowhere no_add (line_of v.name.0 0) (listed v.adds) i less in ap₂ (are_named from (earlier (viewed v) i)) after before)
