-- The first place of a list at which a number stands, or none.
-- Assumes nothing.
use Rattle.std.specs.Prelude.{◌≡◌, ℕ, ◌<◌, List, length, Some, None, Option, ◌≢◌, slice_index}

abbrev pub FirstAt : List ℕ → ℕ → Option ℕ → Type 0
FirstAt xs x (Some i) = (i < length xs) × (slice_index xs i ≡ x) × ((k : ℕ) → k < i → slice_index xs k ≢ x)
FirstAt xs x None = (k : ℕ) → k < length xs → slice_index xs k ≢ x
