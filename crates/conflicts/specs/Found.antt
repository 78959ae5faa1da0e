-- A conflict as it is found, by the fields of `Conflict`.
-- NoConflict S order: no block of two lines or more, by the changes S, has exactly the lines of `order`.
-- HasTexts S g: g has the lines that S adds, with their texts. Found S order c: c tells of the conflict that has the lines of `order`.
-- Assumes nothing.
use Rattle.std.specs.Prelude.{◌≡◌, ℕ, ◌≤◌, true, List, ◌∷◌, ◌++◌, length, vec_items}
use Rattle.std.specs.List.{list_all}
use Rattle.change.specs.Membership.{SameMembers}
use Rattle.change.specs.Model.{Change}
use Rattle.blocks.specs.Sheet.{added, text_of, sheet_blocks}
use Rattle.sheet.specs.Lines.{numbers, line_inside, Texts}
use Rattle.settling.specs.Settled as settled
use Rattle.display.specs.declared.gathered.Gathered.{Gathered}
use Rattle.conflicts.specs.declared.conflict.Conflict.{Conflict}

abbrev pub NoConflict : List Change → List ℕ → Type 0
NoConflict S order =
    (front : List (List ℕ)) (block : List ℕ) (back : List (List ℕ)) → sheet_blocks S ≡ front ++ block ∷ back → 2 ≤ length block → SameMembers order block → ⊥

pub record HasTexts (S : List Change) (g : Gathered) : Type 0 where
  pub lines : numbers (vec_items g.lines) ≡ added S
  pub texts : Texts (vec_items g.texts) (vec_items g.lines) (text_of S)
  pub inside : list_all (line_inside (vec_items g.texts)) (vec_items g.lines) ≡ true

pub record Found (S : List Change) (order : List ℕ) (c : Conflict) : Type 0 where
  pub conflict : settled.Conflict S order c.ends.after.0 c.ends.before.0
  pub texts : HasTexts S c.all
