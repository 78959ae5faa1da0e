use Rattle.std.proofs.Common.{◌≡◌, subst}
use Rattle.std.proofs.lemmas.Bool.Decides.{same_from_decides}
use Rattle.change.specs.Few.{listed}
use Rattle.verdict.proofs.FromNeeds.{decides_among}
use Rattle.shelf.specs.TakingBack.{needs_some}
use Rattle.shelf.proofs.Needing.{contains_tells}
use Rattle.shelf.proofs.Shelf.needs_at.Goals as goal

pub returns : goal.returns
returns c =
    let v = c.in-Some.view in
    let n = c.args.name.0 in
    let r = c.contains.result in
    let needed = contains_tells (listed v.needs) c.as_slice.result.now n r c.as_slice.ensures c.contains.ensures.cases in
    subst (λ o. r ≡ needs_some n o) c.in-Some.ensures (same_from_decides r _ needed (decides_among n (listed v.needs)))
