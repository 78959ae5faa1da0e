use Rattle.std.proofs.Common.{◌≡◌, ◌+◌, ◌-◌, [], ◌∷◌, ◌++◌, take, drop, vec_items, ap, ◌∙◌, arith}
use Rattle.change.proofs.Appended.{then_written}
use Rattle.sheet.proofs.bytes.push_text.Goals as goal

pub returns : goal.returns
returns c =
    let start = vec_items c.args.out.now in
    let text = c.args.text in
    let rest = drop text.start c.args.area.now in
    let same : text.start + text.len - text.start ≡ text.len = omega arith in
    then_written start (take text.len rest) (10 ∷ []) (c.in_ok-extend_from_slice.ensures.items ∙ ap (λ n. start ++ take n rest) same) c.in_ok-push.ensures.items
