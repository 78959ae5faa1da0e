-- The numbers of lines, slot by slot.
-- no_line: the number of no line, which marks a free slot. Used ns i: slot i has a line. free_in ns: how many slots are free. AreFree ns slots: each of these is.
-- Finds ns u r: r is the slot of line u, or none where no slot has it. marked ns n slots: these slots given to the lines n, n + 1 and so on.
-- Chosen ns slots: these slots are free, and all different. AllBefore slots x: they stand before the slot x.
-- Assumes nothing.
use Rattle.std.specs.Prelude.{◌≡◌, ℕ, suc, ◌<◌, List, [], ◌∷◌, length, Some, None, count_by, Option, ◌≢◌, nat_eq, slice_index, slice_set}

abbrev pub no_line : ℕ
no_line = 2

abbrev pub Used : List ℕ → ℕ → Type 0
Used ns i = (i < length ns) × (slice_index ns i ≢ no_line)

abbrev pub free_in : List ℕ → ℕ
free_in ns = count_by (λ n. nat_eq n no_line) ns

abbrev pub AreFree : List ℕ → List ℕ → Type 0
AreFree ns slots = (k : ℕ) → k < length slots → (slice_index slots k < length ns) × (slice_index ns (slice_index slots k) ≡ no_line)

abbrev pub Finds : List ℕ → ℕ → Option ℕ → Type 0
Finds ns u None = (i : ℕ) → Used ns i → slice_index ns i ≢ u
Finds ns u (Some i) = Used ns i × (slice_index ns i ≡ u)

abbrev pub marked : List ℕ → ℕ → List ℕ → List ℕ
marked ns n [] = ns
marked ns n (s ∷ slots) = marked (slice_set ns s n) (suc n) slots

pub record Chosen (ns : List ℕ) (slots : List ℕ) : Type 0 where
  pub free : AreFree ns slots
  pub once : (j k : ℕ) → j < length slots → k < length slots → slice_index slots j ≡ slice_index slots k → j ≡ k

abbrev pub AllBefore : List ℕ → ℕ → Type 0
AllBefore slots x = (k : ℕ) → k < length slots → slice_index slots k < x
