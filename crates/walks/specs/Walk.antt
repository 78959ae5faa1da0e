-- The walk through items of which some must come before others. Throughout, `before s t` says that s must precede t, `rank` gives the number of an item, and ts are the items still to come.
-- ahead_of before ts t: how many of ts must precede t. IsNext before rank ts k t: of those of ts that none of ts must precede, t, at place k, has the lowest number.
-- IsWalk before rank ts ws: ws are such items, each taken from those that the ones before it left of ts, until none can be taken.
-- Assumes nothing.
use Rattle.std.specs.Prelude.{◌≡◌, ℕ, ◌<◌, ◌≤◌, ◌≢◌, Bool, List, [], ◌∷◌, length, count_by, slice_index_or}
use Rattle.std.specs.List.{remove, All}

abbrev pub ahead_of : {T : Type 0} → (T → T → Bool) → List T → T → ℕ
ahead_of before ts t = count_by (λ s. before s t) ts

pub record IsNext {T : Type 0} (before : T → T → Bool) (rank : T → ℕ) (ts : List T) (k : ℕ) (t : T) : Type 0 where
  pub within : k < length ts
  pub there : t ≡ slice_index_or ts k t
  pub free : ahead_of before ts t ≡ 0
  pub lowest : All (λ s. ahead_of before ts s ≡ 0 → rank t ≤ rank s) ts

abbrev pub IsWalk : {T : Type 0} → (T → T → Bool) → (T → ℕ) → List T → List T → Type 0
IsWalk before rank ts [] = All (λ t. ahead_of before ts t ≢ 0) ts
IsWalk before rank ts (w ∷ ws) = (k : ℕ) × IsNext before rank ts k w × IsWalk before rank (remove ts k) ws
