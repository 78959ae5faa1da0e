-- How the blocks are found: one walk through all the lines, and then cuts in it. It asks nothing of the test: where no line is free, the walk ends.
-- walk before n ls: at most n lines of ls, each time the lowest free one. cut before block to-come: the blocks, where `block` is the one begun.
-- blocks_of before ls: the blocks of the lines ls, where `before u v` says that u stands before v.
-- Assumes nothing.
use Rattle.std.specs.Prelude.{ℕ, zero, suc, Bool, cond, not, List, [], ◌∷◌, ◌++◌, length, filter, ◌==◌, nat_le}
use Rattle.std.specs.List.{list_all}

-- no line of ls stands before u
abbrev pub free : (ℕ → ℕ → Bool) → List ℕ → ℕ → Bool
free before ls u = list_all (λ v. not (before v u)) ls

-- the lowest of u and ls
abbrev pub lowest : ℕ → List ℕ → ℕ
lowest u [] = u
lowest u (v ∷ ls) = lowest (cond (nat_le u v) u v) ls

abbrev pub without : ℕ → List ℕ → List ℕ
without u ls = filter (λ v. not (v == u)) ls

-- the lowest of these free lines of ls, and then the walk through the others
abbrev pub go_on : (List ℕ → List ℕ) → List ℕ → List ℕ → List ℕ
go_on next ls [] = []
go_on next ls (u ∷ us) = lowest u us ∷ next (without (lowest u us) ls)

abbrev pub walk : (ℕ → ℕ → Bool) → ℕ → List ℕ → List ℕ
walk before zero ls = []
walk before (suc n) ls = go_on (walk before n) ls (filter (free before ls) ls)

-- each line of the block stands before each that is still to come
abbrev pub wholly : (ℕ → ℕ → Bool) → List ℕ → List ℕ → Bool
wholly before block to_come = list_all (λ u. list_all (before u) to_come) block

abbrev pub cut : (ℕ → ℕ → Bool) → List ℕ → List ℕ → List (List ℕ)
cut before block [] = block ∷ []
cut before block (x ∷ xs) = cond (wholly before block (x ∷ xs)) (block ∷ cut before (x ∷ []) xs) (cut before (block ++ x ∷ []) xs)

abbrev pub cut_all : (ℕ → ℕ → Bool) → List ℕ → List (List ℕ)
cut_all before [] = []
cut_all before (x ∷ xs) = cut before (x ∷ []) xs

abbrev pub blocks_of : (ℕ → ℕ → Bool) → List ℕ → List (List ℕ)
blocks_of before ls = cut_all before (walk before (length ls) ls)
