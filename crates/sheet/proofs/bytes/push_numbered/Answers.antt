use Rattle.std.proofs.Common.{◌≡◌, [], ◌∷◌, ◌++◌, vec_items, string_bytes, decimal, ap, ◌∙◌, append_assoc}
use Rattle.change.proofs.Appended.{then_written}
use Rattle.sheet.specs.Shown.{text_line}
use Rattle.sheet.proofs.bytes.push_numbered.Goals as goal

pub returns : goal.returns
returns c =
    let start = vec_items c.args.out.now in
    let number = decimal c.args.line.number.0 in
    let text = text_line c.args.area.now c.args.line.text in
    let label : string_bytes c.in_ok-label.label ≡ number ++ 32 ∷ [] = c.in_ok-label.ensures.ok in
    let labelled = c.in_ok-extend_from_slice.ensures.items ∙ ap (λ bytes. start ++ bytes) (c.as_bytes.ensures.value ∙ label) in
    then_written start (number ++ 32 ∷ []) text labelled c.in_ok-push_text.ensures ∙ ap (λ bytes. start ++ bytes) (append_assoc number (32 ∷ []) text)
