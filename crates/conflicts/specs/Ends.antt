-- The ends of a conflict as they are found, by the fields of `Ends`: R says which slot stands before which, ws are the lines in the order of the walk, ls all lines of the sheet.
-- EndsFrom R above first ls r: r has those of a block whose first line is `first` and that has `above` above it, or no line leads to it.
-- EndsAt R ws start ls r: r has those of the block that begins at the place `start`, or no line leads to it. EndsOf R ws ls order r: r has those of the block that has exactly the lines of `order`, if there is one.
-- Assumes nothing.
use Rattle.std.specs.Prelude.{◌≡◌, ℕ, Bool, ◌⊎◌, List, take, Some, None, Option, slice_index_or}
use Rattle.sheet.specs.declared.line.LineAt.{LineAt}
use Rattle.sheet.specs.Lines.{no_line}
use Rattle.conflicts.specs.declared.leading.Ends.{Ends}
use Rattle.conflicts.specs.Block.{BlockOf, NoBlockOf}
use Rattle.conflicts.specs.Leading.{NoneLeads, SomeLeads}

abbrev pub EndsFrom : (ℕ → ℕ → Bool) → List LineAt → LineAt → List LineAt → Option Ends → Type 0
EndsFrom R above first ls None = NoneLeads R above first.slot ls
EndsFrom R above first ls (Some e) = (e.before ≡ first.number) × SomeLeads R above first.slot ls e.after.0

abbrev pub EndsAt : (ℕ → ℕ → Bool) → List LineAt → ℕ → List LineAt → Option Ends → Type 0
EndsAt R ws start ls r = EndsFrom R (take start ws) (slice_index_or ws start no_line) ls r

abbrev pub EndsOf : (ℕ → ℕ → Bool) → List LineAt → List LineAt → List ℕ → Option Ends → Type 0
EndsOf R ws ls order None = NoBlockOf R ws order ⊎ ((start : ℕ) × (end : ℕ) × BlockOf R ws order start end × EndsAt R ws start ls None)
EndsOf R ws ls order (Some e) = (start : ℕ) × (end : ℕ) × BlockOf R ws order start end × EndsAt R ws start ls (Some e)
