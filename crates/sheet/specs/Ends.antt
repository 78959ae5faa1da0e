-- Where a block of a walk ends. Throughout, R says which slot stands before which, and ls are the lines in the order of the walk.
-- slot_at ls k: the slot of the line at place k. Above R ls i e: each line from place i up to e stands before each from e on.
-- LastBeside R s ls o: o is the place of the last of the lines ls that slot s doesn't stand before, or none where it stands before all.
-- Reach R ls i r: r is the least end past place i from which on the line there stands before all.
-- BlockEnd R ls i end r: r is the least end, from `end` on, such that all from place i up to it stand above the rest.
-- Assumes nothing.
use Rattle.std.specs.Prelude.{◌≡◌, ℕ, ◌+◌, ◌-◌, ◌<◌, ◌≤◌, Bool, true, false, List, length, slice_index_or, Option, MatchOption}
use Rattle.sheet.specs.declared.line.LineAt.{LineAt}
use Rattle.sheet.specs.Lines.{no_line}

abbrev pub slot_at : List LineAt → ℕ → ℕ
slot_at ls k = (slice_index_or ls k no_line).slot

abbrev pub Above : (ℕ → ℕ → Bool) → List LineAt → ℕ → ℕ → Type 0
Above R ls i e = (k j : ℕ) → i ≤ k → k < e → e ≤ j → j < length ls → R (slot_at ls k) (slot_at ls j) ≡ true

abbrev pub LastBeside : (ℕ → ℕ → Bool) → ℕ → List LineAt → Option ℕ → Type 0
LastBeside R s ls o =
    MatchOption o ((k : ℕ) → k < length ls → R s (slot_at ls k) ≡ true) (λ i. (i < length ls) × (R s (slot_at ls i) ≡ false) × ((k : ℕ) → i < k → k < length ls → R s (slot_at ls k) ≡ true))

pub record Reach (R : ℕ → ℕ → Bool) (ls : List LineAt) (i r : ℕ) : Type 0 where
  pub past : i < r
  pub within : r ≤ length ls
  pub above : (j : ℕ) → r ≤ j → j < length ls → R (slot_at ls i) (slot_at ls j) ≡ true
  pub last : i + 1 < r → R (slot_at ls i) (slot_at ls (r - 1)) ≡ false

pub record BlockEnd (R : ℕ → ℕ → Bool) (ls : List LineAt) (i end r : ℕ) : Type 0 where
  pub past : end ≤ r
  pub within : r ≤ length ls
  pub above : Above R ls i r
  pub least : (e : ℕ) → end ≤ e → e < r → Above R ls i e → ⊥
