-- A pass over the rows of a table that writes one column: a turn of it, and its end. R is what the table holds before the pass, and S after the turns so far.
-- Assumes nothing.
use Rattle.std.proofs.Common.{◌≡◌, ℕ, ◌+◌, ◌≤◌, Bool, false, cond, ◌&&◌, eqb, ltb, arith}
use Rattle.std.proofs.lemmas.Bool.Decides.{nat_tests}
use Rattle.table.specs.Edits.{Same, with_cell, with_column}

-- R with f for column x in its first n rows
abbrev pub column_up_to : (ℕ → ℕ → Bool) → ℕ → (ℕ → Bool) → ℕ → ℕ → ℕ → Bool
column_up_to R x f n u v = cond (ltb u n && eqb v x) (f u) (R u v)

pub row_as_before : (R S : ℕ → ℕ → Bool) (x : ℕ) (f : ℕ → Bool) (i v : ℕ) → Same S (column_up_to R x f i) → S i v ≡ R i v
row_as_before R S x f i v so_far = grind (arith, nat_tests, so_far i v)

pub column_more :
    (R S S' : ℕ → ℕ → Bool) (x : ℕ) (f : ℕ → Bool) (i : ℕ) (on : Bool) →
    Same S (column_up_to R x f i) → on ≡ f i → Same S' (with_cell S i x on) → Same S' (column_up_to R x f (i + 1))
column_more R S S' x f i on so_far is written u v = grind (arith, nat_tests, written u v, is, so_far u v)

pub column_all :
    (R S : ℕ → ℕ → Bool) (x : ℕ) (f : ℕ → Bool) (n : ℕ) →
    Same S (column_up_to R x f n) → ((u v : ℕ) → n ≤ u → R u v ≡ false) → ((u : ℕ) → n ≤ u → f u ≡ false) → Same S (with_column R x f)
column_all R S x f n so_far outside none u v = grind (arith, nat_tests, so_far u v, outside u v, none u)
