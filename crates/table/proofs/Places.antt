-- Where the bits of a table lie, and what one byte written into it alters.
-- Assumes nothing.
use Rattle.std.proofs.Common.{◌≡◌, ℕ, ◌+◌, ◌*◌, ◌/◌, ◌%◌, ◌<◌, ◌≤◌, Bool, false, cond, ◌&&◌, eqb, List, length, get_or, set, replicate, sym, ap, ◌∙◌, inl, inr, mul-le-mul_right, arith}
use native.Mathlib.Nat.{zero-div}
use Rattle.std.proofs.lemmas.Nat.{div-mul-add, mod-mul-add}
use Rattle.std.proofs.lemmas.List.{get_or-set_same, get_or-set_other, get_or-replicate, get_or_past, length-replicate}
use Rattle.std.proofs.lemmas.Bool.{cases_eq, cases_lt}
use Rattle.std.proofs.lemmas.Bool.Decides.{nat_tests}
use Rattle.table.specs.Cells.{bit, stride, byte_of, at}
use Rattle.table.specs.Edits.{Same, with_cell}

pub row_within : (w n i : ℕ) → i < n → i * w + w ≤ n * w
row_within w n i p = omega (arith, mul-le-mul_right w p)

byte_within : (slots i j : ℕ) → i < slots → j < slots → byte_of slots i j < slots * stride slots
byte_within slots i j p q = omega (arith, row_within (stride slots) slots i p)

-- Two places of one width are the same only at the same row and column.
same_row : (w i k u l : ℕ) → k < w → l < w → u * w + l ≡ i * w + k → u ≡ i
same_row w i k u l p q e = sym (div-mul-add u w l q) ∙ ap (λ x. x / w) e ∙ div-mul-add i w k p

same_column : (w i k u l : ℕ) → k < w → l < w → u * w + l ≡ i * w + k → l ≡ k
same_column w i k u l p q e = sym (mod-mul-add u w l q) ∙ ap (λ x. x % w) e ∙ mod-mul-add i w k p

byte_of_set :
    (xs : List ℕ) (w i k y u l : ℕ) → k < w → l < w → i * w + k < length xs →
    get_or (set xs (i * w + k) y) (u * w + l) 0 ≡ cond (eqb u i && eqb l k) y (get_or xs (u * w + l) 0)
byte_of_set xs w i k y u l p q h =
    elim (cases_eq (u * w + l) (i * w + k)) [
      | inl e ↦ let eu = same_row w i k u l p q e in let el = same_column w i k u l p q e in grind (arith, nat_tests, get_or-set_same xs (i * w + k) y 0 h)
      | inr ne ↦ grind (arith, nat_tests, get_or-set_other xs (i * w + k) (u * w + l) y 0 ne)
    ]

-- The byte of row i and column j is written, and differs in that one bit at most.
pub at_of_put :
    (bits : List ℕ) (slots i j byte y : ℕ) (on : Bool) → byte ≡ byte_of slots i j → i < slots → j < slots → slots * stride slots ≤ length bits →
    ((m : ℕ) → m < 8 → bit y m ≡ cond (eqb m (j % 8)) on (bit (get_or bits byte 0) m)) →
    Same (at (set bits byte y) slots) (with_cell (at bits slots) i j on)
at_of_put bits slots i j byte y on e p q room written u v =
    let inside = byte_within slots i j p q in
    elim (cases_lt v slots) [
      | inl h ↦
          let here = byte_of_set bits (stride slots) i (j / 8) y u (v / 8) (omega arith) (omega arith) (omega arith) in
          let digit = written (v % 8) (omega arith) in
          grind (arith, nat_tests, e, here, digit)
      | inr h ↦ grind (arith, nat_tests)
    ]

pub bit_of_zero : (k : ℕ) → bit 0 k ≡ false
bit_of_zero k = rw zero-div

-- Bytes that are all 0 hold nothing.
pub at_of_zeros : (bits : List ℕ) (slots n : ℕ) → bits ≡ replicate n 0 → (u v : ℕ) → at bits slots u v ≡ false
at_of_zeros bits slots n e u v =
    let here : get_or bits (byte_of slots u v) 0 ≡ 0 =
    rw e (elim (cases_lt (byte_of slots u v) n) [ inl h ↦ get_or-replicate n _ 0 0 h | inr h ↦ get_or_past (replicate n 0) _ 0 (rw length-replicate h) ]) in
    grind (arith, nat_tests, bit_of_zero (v % 8))
