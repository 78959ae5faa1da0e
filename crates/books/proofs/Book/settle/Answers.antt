use Rattle.std.proofs.Common.{true, [], ◌∷◌, ◌++◌, Ok, refl, ◌∙◌, subst, arith}
use Rattle.books.specs.Sane.{model_of}
use Rattle.books.specs.Trying.{Tried}
use Rattle.books.proofs.Turns.{one_more, stops, stops_early, is_through}
use Rattle.books.proofs.Book.settle.Goals as goal

pub returns-then-is_err : goal.returns-then-is_err
returns-then-is_err c =
    let (sane, so_far) = c.loop-tries.invariant in
    record { sane = sane; settled = stops_early _ _ _ _ _ so_far (omega arith) _ refl _ c.reserve.ensures.items }

pub returns-in_default : goal.returns-in_default
returns-in_default c =
    let (sane, so_far) = c.loop-tries.invariant in
    let (d, next, taken, same) = c.in_default.ensures.tried in
    record { sane = c.try_next.ensures.sane; settled = stops_early _ _ _ _ _ so_far (omega arith) _ same _ c.reserve.ensures.items }

pub returns-in_default-tried : goal.returns-in_default-tried
returns-in_default-tried c =
    let (sane, so_far) = c.loop-tries.invariant in
    let (none, same) = subst (λ o. Tried (model_of c.loop-tries.self) (model_of c.try_next.new.self) (Ok o)) c.in_default-tried.is c.in-Ok.ensures.tried in
    record { sane = c.try_next.ensures.sane; settled = is_through _ _ _ _ _ so_far (omega arith) none _ same _ c.reserve.ensures.items true }

pub loop-tries-preserved : goal.loop-tries-preserved
loop-tries-preserved c =
    let (sane, so_far) = c.loop-tries.invariant in
    let (d, next, told, after) = subst (λ o. Tried (model_of c.loop-tries.self) (model_of c.try_next.new.self) (Ok o)) c.in-Some.is c.in-Ok.ensures.tried in (
      c.try_next.ensures.sane,
      one_more _ _ _ _ _ so_far d next _ (c.push_reserved.ensures.items ∙ (λ i. c.reserve.ensures.items i ++ told i ∷ [])) _ after,
    )

pub returns : goal.returns
returns c =
    let (sane, so_far) = c.loop-tries.invariant in
    record { sane = sane; settled = stops _ _ _ _ _ so_far (omega arith) _ refl _ refl true (λ _. omega arith) }
