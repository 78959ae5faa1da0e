use Rattle.std.proofs.Common.{◌≡◌, [], ◌∷◌, ◌++◌, vec_items, codes, ap, ◌∙◌, arith}
use Rattle.std.specs.List.{flat_map}
use Rattle.change.proofs.Appended.{then_written}
use Rattle.answers.specs.Lines.{spaced, lines_of}
use Rattle.answers.proofs.Numbered.{one_more_number}
use Rattle.answers.proofs.made_line.made_change.Goals as goal

pub loop-place-preserved : goal.loop-place-preserved
loop-place-preserved c = one_more_number _ _ _ c.args.name.0 c.loop-place.place c.loop-place.invariant c.in_ok-spaced_number-2.ensures

pub returns : goal.returns
returns c =
    let start = vec_items c.args.out.now in
    let name = c.args.name.0 in
    let all : c.loop-place.place ≡ c.args.count = omega arith in
    let lines = flat_map spaced (lines_of name c.args.count) in
    let written = c.loop-place.invariant ∙ ap (λ n. vec_items c.spaced_number.new.out ++ flat_map spaced (lines_of name n)) all in
    let named = then_written start (codes "made") (spaced name) c.in_ok-extend_from_slice.ensures.items c.in_ok-spaced_number.ensures in
    then_written start (codes "made" ++ (spaced name ++ lines)) (10 ∷ []) (then_written start (codes "made" ++ spaced name) lines named written) c.in_ok-push.ensures.items
