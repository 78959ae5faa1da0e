use Rattle.std.proofs.Common.{◌≡◌, map, vec_items, IfOk, rules}
use Rattle.std.proofs.lemmas.Result.{IfOk-weaker}
use Rattle.sheet.proofs.Members.{within_from_all}
use Rattle.outgoing.proofs.Walking.{places_within, walked_in_order}
use Rattle.outgoing.proofs.walk.walked.Goals as goal

pub returns-clause-places : goal.returns-clause-places
returns-clause-places c =
    let lacking = c.args.lacking.now in
    let changes = c.as_slice.result.now in
    let walked = vec_items c.in_ok-walked.walked in
    let gathered : map (λ b. b.now) changes ≡ lacking = search rules in
    let placed : IfOk c.collect-2.result (λ v. vec_items v ≡ map (λ b. b.now.place) walked) = search rules in
    IfOk-weaker c.collect-2.result _ _ (λ v e. places_within lacking changes gathered walked v.items e (within_from_all walked changes c.in_ok-walked.ensures.among)) placed

pub returns-clause-are : goal.returns-clause-are
returns-clause-are c =
    let lacking = c.args.lacking.now in
    let changes = c.as_slice.result.now in
    let walked = vec_items c.in_ok-walked.walked in
    let gathered : map (λ b. b.now) changes ≡ lacking = search rules in
    let placed : IfOk c.collect-2.result (λ v. vec_items v ≡ map (λ b. b.now.place) walked) = search rules in
    IfOk-weaker c.collect-2.result _ _ (λ v e K told apart. walked_in_order lacking changes gathered K told walked v.items e c.in_ok-walked.ensures.walks apart) placed
