use Rattle.std.proofs.Common.{◌≡◌, [], ◌∷◌, ◌++◌, vec_items, ap, ◌∙◌}
use Rattle.change.proofs.Appended.{then_written}
use Rattle.console.specs.Hex.{hex_of}
use Rattle.answers.proofs.hex_line.digits.Goals as goal

pub returns : goal.returns
returns c =
    let start = vec_items c.args.out.now in
    let digits : c.as_bytes.result.now ≡ hex_of c.args.bytes.now = c.as_bytes.ensures.value ∙ c.in_ok-digits.ensures in
    let written = c.in_ok-extend_from_slice.ensures.items ∙ ap (λ bytes. start ++ bytes) digits in
    then_written start (hex_of c.args.bytes.now) (10 ∷ []) written c.in_ok-push.ensures.items
