-- Lines gathered to be shown, by the fields of `Gathered`.
-- HasSlot ns u: the line u has a slot, where ns are the numbers slot by slot. with_text area a: the number and the text of each line.
-- Gives ns g ps: the lines of g are ps, each in its slot, and their texts lie in those of g.
-- Assumes nothing.
use Rattle.std.specs.Prelude.{◌≡◌, ℕ, true, List, map, Some, vec_items, All, slice_index}
use Rattle.std.specs.List.{list_all}
use Rattle.change.specs.View.{cut}
use Rattle.lines.specs.Numbers.{Used, Finds}
use Rattle.sheet.specs.declared.line.LineAt.{LineAt}
use Rattle.sheet.specs.Lines.{line_inside}
use Rattle.display.specs.declared.gathered.Gathered.{Gathered}

abbrev pub HasSlot : List ℕ → ℕ → Type 0
HasSlot ns u = (i : ℕ) × Used ns i × (slice_index ns i ≡ u)

abbrev pub with_text : List ℕ → LineAt → ℕ × List ℕ
with_text area a = (a.number.0, cut area a.text)

pub record Gives (ns : List ℕ) (g : Gathered) (ps : List (ℕ × List ℕ)) : Type 0 where
  pub lines : map (with_text (vec_items g.texts)) (vec_items g.lines) ≡ ps
  pub slots : All (λ a. Finds ns a.number.0 (Some a.slot)) (vec_items g.lines)
  pub inside : list_all (line_inside (vec_items g.texts)) (vec_items g.lines) ≡ true
