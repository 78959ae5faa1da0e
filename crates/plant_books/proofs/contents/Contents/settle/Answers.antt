use Rattle.std.proofs.Common.{[], ◌∷◌, ◌++◌, vec_items, refl, ◌∙◌, arith}
use Rattle.plant_books.proofs.Turns.{goes_on_at_first, one_more, all_tried, none_left}
use Rattle.plant_books.proofs.contents.Contents.settle.Goals as goal

pub loop-tries-init : goal.loop-tries-init
loop-tries-init c = (c.requires.whole, goes_on_at_first _ _, omega arith, omega (arith, c.requires.room), refl)

pub push_reserved-requires : goal.push_reserved-requires
push_reserved-requires c =
    let (whole, so_far, many, room, cap) = c.loop-tries.invariant in
    omega arith

pub returns-in_default : goal.returns-in_default
returns-in_default c =
    let (whole, so_far, many, room, cap) = c.loop-tries.invariant in
    let (none, same) = c.in_default.ensures.tried in
    record { whole = c.try_next.ensures.whole; settled = none_left _ _ _ _ _ so_far (omega arith) none _ same; capacity = cap }

pub loop-tries-preserved : goal.loop-tries-preserved
loop-tries-preserved c =
    let (whole, so_far, many, room, cap) = c.loop-tries.invariant in
    let (d, next, told, after) = c.in-Some.ensures.tried in (
      c.try_next.ensures.whole,
      one_more _ _ _ _ _ so_far d next _ (c.push_reserved.ensures.items ∙ (λ i. vec_items c.loop-tries.events ++ told i ∷ [])) _ after,
      omega (arith, c.push_reserved.ensures.len),
      omega (arith, c.push_reserved.ensures.capacity),
      c.push_reserved.ensures.capacity ∙ cap,
    )

pub returns : goal.returns
returns c =
    let (whole, so_far, many, room, cap) = c.loop-tries.invariant in
    record { whole = whole; settled = all_tried _ _ _ _ _ so_far (omega arith); capacity = cap }
