-- One row of a table overwritten: what the table holds then. xs are the bytes before, ys those after.
-- Assumes nothing.
use Rattle.std.proofs.Common.{◌≡◌, ℕ, ◌+◌, ◌-◌, ◌*◌, ◌/◌, ◌%◌, ◌<◌, ◌≤◌, false, ◌&&◌, ltb, List, length, get_or, replicate, ap, ◌∙◌, inl, inr, arith, rules}
use borrow.Rule.Slice.PartMut.{put_mid}
use Rattle.std.specs.List.{between}
use Rattle.std.proofs.lemmas.List.{places}
use Rattle.std.proofs.lemmas.Bool.{cases_lt, cases_order}
use Rattle.std.proofs.lemmas.Bool.Decides.{nat_tests}
use Rattle.table.specs.Cells.{bit, stride, byte_of, at}
use Rattle.table.specs.Edits.{Same, with_row}
use Rattle.table.proofs.Places.{row_within, bit_of_zero}

-- The bytes of row x are those of f now, and the others are as they were.
at_of_row :
    (xs ys : List ℕ) (slots x : ℕ) (f : ℕ → ℕ) → x < slots →
    ((l : ℕ) → l < stride slots → get_or ys (x * stride slots + l) 0 ≡ f l) →
    ((k : ℕ) → k < x * stride slots → get_or ys k 0 ≡ get_or xs k 0) →
    ((k : ℕ) → x * stride slots + stride slots ≤ k → get_or ys k 0 ≡ get_or xs k 0) →
    Same (at ys slots) (with_row (at xs slots) x (λ v. ltb v slots && bit (f (v / 8)) (v % 8)))
at_of_row xs ys slots x f p inside before behind u v =
    elim (cases_lt v slots) [
      | inl h ↦ elim (cases_order u x) [
        | inl e ↦ grind (arith, nat_tests, inside (v / 8) (omega arith))
        | inr (inl lt) ↦ grind (arith, nat_tests, before (byte_of slots u v) (omega (arith, row_within (stride slots) x u lt)))
        | inr (inr gt) ↦ grind (arith, nat_tests, behind (byte_of slots u v) (omega (arith, row_within (stride slots) u x gt)))
      ]
      | inr h ↦ grind (arith, nat_tests)
    ]

-- Row `to` begins at `dest`, row `from` at `first`, and n bytes are copied.
pub at_of_copied_row :
    (xs ys : List ℕ) (slots from to first dest n : ℕ) →
    first ≡ from * stride slots → dest ≡ to * stride slots → n ≡ stride slots → from < slots → to < slots →
    ((k d : ℕ) → dest ≤ k → k < dest + (first + n - first) → get_or ys k d ≡ get_or xs (first + (k - dest)) d)
    × ((k d : ℕ) → k < dest → get_or ys k d ≡ get_or xs k d)
    × ((k d : ℕ) → dest + (first + n - first) ≤ k → get_or ys k d ≡ get_or xs k d) →
    Same (at ys slots) (with_row (at xs slots) to (at xs slots from))
at_of_copied_row xs ys slots from to first dest n f_is d_is n_is p q h u v =
    at_of_row xs ys slots to (λ l. get_or xs (from * stride slots + l) 0) q
    (λ l b. h.0 (to * stride slots + l) 0 (omega arith) (omega arith) ∙ ap (λ k. get_or xs k 0) (omega arith))
    (λ k b. h.1 k 0 (omega arith))
    (λ k b. h.2 k 0 (omega arith)) u v
    ∙ grind (arith, nat_tests)

-- Row x begins at `first`, and n bytes are made 0.
pub at_of_cleared_row :
    (xs zs : List ℕ) (slots x first n : ℕ) → first ≡ x * stride slots → n ≡ stride slots → x < slots → slots * stride slots ≤ length xs →
    zs ≡ replicate (length (between first (first + n) xs)) 0 →
    Same (at (put_mid first (first + n - first) xs zs) slots) (with_row (at xs slots) x (λ _. false))
at_of_cleared_row xs zs slots x first n f_is n_is p room e u v =
    let end = row_within (stride slots) slots x p in
    rw e (at_of_row xs (put_mid first (first + n - first) xs (replicate (length (between first (first + n) xs)) 0)) slots x (λ _. 0) p
    (λ l b. search (rules, places))
    (λ k b. search (rules, places))
    (λ k b. search (rules, places)) u v
    ∙ grind (arith, nat_tests, bit_of_zero (v % 8)))
