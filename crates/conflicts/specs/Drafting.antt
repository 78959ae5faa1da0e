-- A conflict and the lines of its sheet, as requests are made from them, by the fields of `Conflict`.
-- numbers_in c: the numbers of the lines. text_of_line c u: the text of line u.
-- Assumes nothing.
use Rattle.std.specs.Prelude.{ℕ, List, vec_items}
use Rattle.sheet.specs.Lines.{numbers, text_in}
use Rattle.conflicts.specs.declared.conflict.Conflict.{Conflict}

abbrev pub numbers_in : Conflict → List ℕ
numbers_in c = numbers (vec_items c.all.lines)

abbrev pub text_of_line : Conflict → ℕ → List ℕ
text_of_line c = text_in (vec_items c.all.texts) (vec_items c.all.lines)
