use Rattle.std.proofs.Common.{not, length, refl, ◌∙◌, arith, rules, tests}
use Rattle.std.proofs.lemmas.Iterator.{YieldsList-from_range}
use Rattle.std.proofs.lemmas.Iterator.Search.{all_from_yields_List}
use Rattle.store.specs.Kept.{kept}
use Rattle.shelf.specs.TakingBack.{needs_at}
use Rattle.shelf.proofs.Needing.{none_needs_by_place}
use Rattle.shelf.proofs.Shelf.none_needs.Goals as goal

pub returns : goal.returns
returns c =
    let cs = kept c.args.self.now.store in
    let n = c.args.name.0 in
    all_from_yields_List (λ place. not (needs_at cs n place)) _ _ c.all.result c.all.ensures.ran (YieldsList-from_range 0 c.len.result (length cs) refl (omega (arith, c.len.ensures))) (λ x b q k. search (rules, tests))
    ∙ none_needs_by_place cs n
