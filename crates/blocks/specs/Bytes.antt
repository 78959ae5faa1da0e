-- The bytes in which blocks are shown.
-- block_bytes text block: a line alone is its text; of more, each is its number and its text, between the marks << and >>. sheet_bytes text blocks: one block after another.
-- Assumes nothing.
use Rattle.std.specs.Prelude.{ℕ, List, [], ◌∷◌, ◌++◌, decimal}

-- a line's number, a space, its text, and byte 10, which ends every shown line
abbrev pub numbered : (ℕ → List ℕ) → List ℕ → List ℕ
numbered text [] = []
numbered text (u ∷ ls) = decimal u ++ 32 ∷ (text u ++ 10 ∷ numbered text ls)

abbrev pub block_bytes : (ℕ → List ℕ) → List ℕ → List ℕ
block_bytes text [] = []
block_bytes text (u ∷ []) = text u ++ 10 ∷ []
block_bytes text (u ∷ v ∷ ls) = 60 ∷ 60 ∷ 10 ∷ (numbered text (u ∷ v ∷ ls) ++ 62 ∷ 62 ∷ 10 ∷ [])

abbrev pub sheet_bytes : (ℕ → List ℕ) → List (List ℕ) → List ℕ
sheet_bytes text [] = []
sheet_bytes text (b ∷ bs) = block_bytes text b ++ sheet_bytes text bs
