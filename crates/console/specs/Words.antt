-- A line cut at its first space.
-- Assumes nothing.
use Rattle.std.specs.Prelude.{◌≡◌, ℕ, ◌<◌, ◌⊎◌, List, [], ◌++◌, length, codes, ◌≢◌, slice_index}

abbrev pub Spaceless : List ℕ → Type 0
Spaceless word = (i : ℕ) → i < length word → slice_index word i ≢ 32

-- A word, and what stands behind its space: nothing, where there is no space.
abbrev pub Split : List ℕ → List ℕ → List ℕ → Type 0
Split line word rest = (line ≡ word ++ (codes " " ++ rest)) ⊎ ((line ≡ word) × (rest ≡ []))
