-- The blocks of a walk, one after another. Throughout, R says which slot stands before which, and ws are the lines in the order of the walk.
-- NextBlock R ws start r end: r is the block that begins at the place `start`, with what is above it, and ends at `end`; or the walk ends there.
-- Assumes nothing.
use Rattle.std.specs.Prelude.{◌≡◌, ℕ, ◌+◌, Bool, List, length, take, None, Some, Option}
use Rattle.std.specs.List.{between}
use Rattle.sheet.specs.declared.block.Block.{Block}
use Rattle.sheet.specs.declared.line.LineAt.{LineAt}
use Rattle.sheet.specs.Ends.{BlockEnd}

abbrev pub NextBlock : (ℕ → ℕ → Bool) → List LineAt → ℕ → Option Block → ℕ → Type 0
NextBlock R ws start None end = (start ≡ length ws) × (end ≡ start)
NextBlock R ws start (Some b) end = BlockEnd R ws start (start + 1) end × (b.above.now ≡ take start ws) × (b.lines.now ≡ between start end ws)
