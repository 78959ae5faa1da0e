use Rattle.std.proofs.Common.{map, length, vec_items, ap, ◌∙◌, subst}
use Rattle.std.specs.List.{Contains}
use Rattle.std.proofs.lemmas.List.Elements.{All-contains_itself}
use Rattle.std.proofs.lemmas.List.{length-map, take_at}
use Rattle.walks.specs.Waiting.{lowered, NoneFree, LowestFree}
use Rattle.walks.proofs.Going.{going_from_start, going_ends, can_count_down, going_goes_on, walk_among}
use Rattle.walks.proofs.walked.Goals as goal

pub loop-place-init : goal.loop-place-init
loop-place-init g c = going_from_start _ _ c.args.items.now _ _ c.in_ok-waiting.ensures c.new-walked.ensures.items

pub count_down-requires : goal.count_down-requires
count_down-requires g c =
    let rank = g.P.Precedence.rank c.args.order.now in
    let place = c.in-Some.place in
    let found = subst (λ v. LowestFree rank v place) c.deref.ensures.value c.in-Some.ensures in
    can_count_down (g.P.Precedence.precedes c.args.order.now) rank c.args.items.now (vec_items c.loop-place.waiting) _ c.loop-place.invariant place found c.remove.result c.remove.ensures.value _
    (c.deref_mut.ensures.value ∙ c.remove.ensures.items)

pub loop-place-preserved : goal.loop-place-preserved
loop-place-preserved g c =
    let before = g.P.Precedence.precedes c.args.order.now in
    let rank = g.P.Precedence.rank c.args.order.now in
    let place = c.in-Some.place in
    let lower = lowered before c.remove.result.item in
    let found = subst (λ v. LowestFree rank v place) c.deref.ensures.value c.in-Some.ensures in
    let as_long = ap length c.count_down.ensures ∙ length-map _ lower ∙ c.deref_mut.ensures.len in
    going_goes_on before rank c.args.items.now (vec_items c.loop-place.waiting) _ c.loop-place.invariant place found c.remove.result c.remove.ensures.value _ _
    (take_at c.count_down.new.waiting _ _ as_long ∙ c.count_down.ensures ∙ ap (map lower) (c.deref_mut.ensures.value ∙ c.remove.ensures.items))
    c.in_ok-push.ensures.items

pub returns : goal.returns
returns g c =
    let before = g.P.Precedence.precedes c.args.order.now in
    let rank = g.P.Precedence.rank c.args.order.now in
    let items = c.args.items.now in
    let walks = going_ends before rank items _ _ c.loop-place.invariant (subst NoneFree c.deref.ensures.value c.in_default.ensures) in
    record { walks = walks; among = walk_among before rank (Contains items) items _ (All-contains_itself items) walks }
