use Rattle.std.proofs.Common.{◌≡◌, suc, ◌-◌, ap, ◌∙◌, subst, arith}
use Rattle.history.specs.Book.{is_ready}
use Rattle.plant_books.specs.Next.{Marks}
use Rattle.plant_books.specs.Sane.{model_of}
use Rattle.plant_books.proofs.Next.{lowest_from, none_from_end, from_place}
use Rattle.plant_books.proofs.contents.Contents.lowest_ready.Goals as goal

pub loop-place-init : goal.loop-place-init
loop-place-init c =
    let B = model_of c.args.self.now in
    ap (lowest_from (is_ready B) B.waiting) c.len-place.ensures ∙ none_from_end (is_ready B) B.waiting

pub loop-place-preserved : goal.loop-place-preserved
loop-place-preserved c =
    let B = model_of c.args.self.now in
    let W = B.waiting in
    let i = c.loop-place.place - 1 in
    let one_before : c.loop-place.place ≡ suc i = omega arith in
    from_place (is_ready B) (Marks W c.lowest_from-lowest.result) W i (omega arith)
    (c.lowest_from-lowest.ensures (lowest_from (is_ready B) W (suc i)) (subst (λ k. Marks W c.loop-place.lowest (lowest_from (is_ready B) W k)) one_before c.loop-place.invariant))
