-- Lines in their slots, and the walk through the living ones, where ns are the numbers slot by slot.
-- Placed S ns a: a is a line by the changes S, and in its slot. Walks S ns ws: ws are the living lines in the order of the walk, each in its slot.
-- Assumes nothing.
use Rattle.std.specs.Prelude.{◌≡◌, ℕ, List, length, Some}
use Rattle.change.specs.Membership.{In}
use Rattle.change.specs.Model.{Change}
use Rattle.order.specs.Order.{Line}
use Rattle.order.specs.Table.{bef, placed}
use Rattle.lines.specs.Numbers.{Finds}
use Rattle.blocks.specs.Function.{walk}
use Rattle.blocks.specs.Sheet.{living}
use Rattle.sheet.specs.declared.line.LineAt.{LineAt}
use Rattle.sheet.specs.Lines.{numbers}

abbrev pub Placed : List Change → List ℕ → LineAt → Type 0
Placed S ns a = Line S a.number.0 × Finds ns a.number.0 (Some a.slot)

pub record Walks (S : List Change) (ns : List ℕ) (ws : List LineAt) : Type 0 where
  pub here : (a : LineAt) → In a ws → Placed S ns a
  pub walked : numbers ws ≡ walk (bef (placed S)) (length (living S)) (living S)
