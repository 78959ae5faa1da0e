use Rattle.std.proofs.Common.{◌≡◌, [], ◌∷◌, ◌++◌, vec_items, string_bytes, decimal, ap, ◌∙◌, append_assoc}
use Rattle.change.proofs.Appended.{then_written}
use Rattle.sheet.specs.Shown.{text_line}
use Rattle.answers.specs.Lines.{state_of}
use Rattle.answers.proofs.listed_lines.listed_line.Goals as goal

pub returns : goal.returns
returns c =
    let start = vec_items c.args.out.now in
    let number = decimal c.args.line.number.0 in
    let state = state_of c.args.line.alive in
    let text = text_line c.args.texts.now c.args.line.text in
    let label : string_bytes c.in_ok-label.label ≡ number ++ 32 ∷ (state ++ 32 ∷ []) =
    c.in_ok-label.ensures.ok ∙ ap (λ word. number ++ 32 ∷ (word ++ 32 ∷ [])) c.state-state.ensures in
    let labelled = c.in_ok-extend_from_slice.ensures.items ∙ ap (λ bytes. start ++ bytes) (c.as_bytes.ensures.value ∙ label) in
    then_written start (number ++ 32 ∷ (state ++ 32 ∷ [])) text labelled c.in_ok-push_text.ensures
    ∙ ap (λ bytes. start ++ bytes) (append_assoc number (32 ∷ (state ++ 32 ∷ [])) text ∙ ap (λ bytes. number ++ 32 ∷ bytes) (append_assoc state (32 ∷ []) text))
