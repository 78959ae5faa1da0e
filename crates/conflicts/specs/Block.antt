-- Blocks by their places in a walk. Throughout, R says which slot stands before which, and ws are the lines in the order of the walk.
-- has_line ls u: one of the lines ls has the number u.
-- CutTo R ws start: the blocks of the walk are cut at the place `start`. IsBlock R ws start end: one block has the lines from `start` up to `end`.
-- PartOf ws start end b: b has the lines from `start` up to `end`, and those above it.
-- WithLine R ws u o: o is the block that has the line u, or none where the walk doesn't have it.
-- BlockOf R ws order start end: that block has exactly the lines of `order`, two or more. NoBlockOf R ws order: the block that has the first line of `order` is none such, or none has it.
-- Assumes nothing.
use Rattle.std.specs.Prelude.{◌≡◌, ℕ, ◌<◌, ◌≤◌, Bool, ◌⊎◌, List, [], ◌∷◌, ◌++◌, length, take, drop, Option, MatchOption, ◌==◌}
use Rattle.std.specs.List.{between, list_any}
use Rattle.change.specs.Membership.{In, SameMembers}
use Rattle.blocks.specs.Function.{cut_all}
use Rattle.blocks.specs.Theorems.{flat}
use Rattle.sheet.specs.declared.block.Block.{Block}
use Rattle.sheet.specs.declared.line.LineAt.{LineAt}
use Rattle.sheet.specs.Lines.{numbers, Orders}

abbrev pub has_line : List LineAt → ℕ → Bool
has_line ls u = list_any (λ a. a.number.0 == u) ls

abbrev pub CutTo : (ℕ → ℕ → Bool) → List LineAt → ℕ → Type 0
CutTo R ws start =
    (before : ℕ → ℕ → Bool) → Orders R ws before →
    (front : List (List ℕ)) × (flat front ≡ take start (numbers ws)) × (cut_all before (numbers ws) ≡ front ++ cut_all before (drop start (numbers ws)))

pub record IsBlock (R : ℕ → ℕ → Bool) (ws : List LineAt) (start end : ℕ) : Type 0 where
  pub some : start < end
  pub within : end ≤ length ws
  pub above : CutTo R ws start
  pub here : (before : ℕ → ℕ → Bool) → Orders R ws before → cut_all before (drop start (numbers ws)) ≡ between start end (numbers ws) ∷ cut_all before (drop end (numbers ws))

pub record PartOf (ws : List LineAt) (start end : ℕ) (b : Block) : Type 0 where
  pub above : b.above.now ≡ take start ws
  pub lines : b.lines.now ≡ between start end ws

abbrev pub WithLine : (ℕ → ℕ → Bool) → List LineAt → ℕ → Option Block → Type 0
WithLine R ws u o = MatchOption o (In u (numbers ws) → ⊥) (λ b. (start : ℕ) × (end : ℕ) × PartOf ws start end b × IsBlock R ws start end × In u (numbers b.lines.now))

pub record BlockOf (R : ℕ → ℕ → Bool) (ws : List LineAt) (order : List ℕ) (start end : ℕ) : Type 0 where
  pub block : IsBlock R ws start end
  pub long : 2 ≤ length (between start end (numbers ws))
  pub same : SameMembers order (between start end (numbers ws))

abbrev pub NoBlockOf : (ℕ → ℕ → Bool) → List LineAt → List ℕ → Type 0
NoBlockOf R ws [] = Unit {0}
NoBlockOf R ws (u ∷ us) =
    (In u (numbers ws) → ⊥)
    ⊎ ((start : ℕ) × (end : ℕ) × IsBlock R ws start end × In u (between start end (numbers ws)) × (2 ≤ length (between start end (numbers ws)) → SameMembers (u ∷ us) (between start end (numbers ws)) → ⊥))
