-- The bytes in which single lines are shown, from the area in which their texts lie.
-- text_line area s: the text that s marks out, as a line. numbered_line area a: the number and the text of a. marked bytes: these, between the marks of a block.
-- Assumes nothing.
use Rattle.std.specs.Prelude.{ℕ, List, [], ◌∷◌, ◌++◌, decimal}
use Rattle.change.specs.declared.span.Span.{Span}
use Rattle.change.specs.View.{cut}
use Rattle.sheet.specs.declared.line.LineAt.{LineAt}

abbrev pub text_line : List ℕ → Span → List ℕ
text_line area s = cut area s ++ 10 ∷ []

abbrev pub numbered_line : List ℕ → LineAt → List ℕ
numbered_line area a = decimal a.number.0 ++ 32 ∷ text_line area a.text

abbrev pub marked : List ℕ → List ℕ
marked bytes = 60 ∷ 60 ∷ 10 ∷ (bytes ++ 62 ∷ 62 ∷ 10 ∷ [])
