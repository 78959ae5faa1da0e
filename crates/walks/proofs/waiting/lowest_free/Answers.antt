use Rattle.std.proofs.Common.{◌≡◌, ◌≤◌, true, map, filter, ap, sym, ◌∙◌, subst, rules, arith}
use Rattle.std.specs.List.{All}
use Rattle.std.proofs.lemmas.Simd.{map-map}
use Rattle.std.proofs.lemmas.List.{nil_from_length}
use Rattle.std.proofs.lemmas.Bool.{eqb-true}
use Rattle.std.proofs.lemmas.Map.Keys.{ge_from_not_lt}
use Rattle.walks.proofs.Lowest.{is_free, stands_at, passes, all_of_run, place_of_found}
use Rattle.walks.proofs.waiting.lowest_free.Goals as goal

pub returns : goal.returns
returns g c =
    let ws = c.args.waiting.now in
    let rank = g.P.Precedence.rank c.args.order.now in
    let found = c.min_by_key.ensures.runs in
    let p = found.0 in
    let kept = c.filter.ensures.runs p p.seen found.1 in
    let q = kept.0 in
    let counted = c.enumerate.ensures.runs q q.seen kept.1 in
    let r = counted.1.0 in
    let read = c.iter.ensures.runs r r.seen in
    let whole : r.whole ≡ true = counted.1.2.1 ∙ kept.2.0 ∙ found.2 in
    let are : map (λ x. x.1.now) q.items ≡ ws =
    sym (map-map (λ b. b.now) (λ x. x.1) q.items) ∙ ap (map (λ b. b.now)) (sym counted.1.2.0.1) ∙ read.4 whole ∙ ap (λ it. it.rest.now) counted.1.1 ∙ c.iter.ensures.rest in
    let filtered : p.items ≡ filter is_free q.items = kept.2.4 is_free (λ x b f' k. search rules) in
    place_of_found rank ws q.items are c.min_by_key.result c.map.result
    (λ n. sym filtered ∙ nil_from_length p.items (sym p.long ∙ n))
    (λ m f.
    let (key, of_found, least) = f.1 (λ a n f' e. search rules) in
    let lowest : key ≡ rank m.1.now.item = search rules in
    record {
      at = stands_at p q m f.0 kept.2.2 counted.0;
      free = eqb-true _ 0 (passes p q m is_free q.items filtered f.0);
      low = subst (All (λ x. rank m.1.now.item ≤ rank x.1.now.item)) filtered (all_of_run p _ (λ x. rank m.1.now.item ≤ rank x.1.now.item) (λ x (other, of_x, not_below).
          let its_own : other ≡ rank x.1.now.item = search rules in
          omega (arith, ge_from_not_lt other key not_below)) least);
    })
    (λ m k e. search rules)
    found.3
    c.map.ensures.cases
