-- What the writes of a line come to, one after the other: R is what the table holds before them, and A to E after each.
-- Assumes nothing.
use Rattle.std.proofs.Common.{◌≡◌, ℕ, Bool, true, false, arith}
use Rattle.std.proofs.lemmas.Bool.Decides.{nat_tests}
use Rattle.order.specs.Table.{step}
use Rattle.table.specs.Edits.{Same, with_cell, with_row, with_column}
use Rattle.table.specs.Puts.{put_of}

pub step_in_five :
    (R A B C D E : ℕ → ℕ → Bool) (x a b : ℕ) → (x ≡ a → ⊥) → (x ≡ b → ⊥) →
    Same A (with_row R x (R b)) → Same B (with_cell A x b true) →
    Same C (with_column B x (λ u. B u a)) → Same D (with_cell C a x true) → Same E (with_cell D x x false) →
    Same E (step R (put_of x a b))
step_in_five R A B C D E x a b ne_a ne_b row ahead column behind self u v =
    grind (arith, nat_tests, self u v, behind u v, column u v, ahead u v, ahead u a, row u v, row u a)
