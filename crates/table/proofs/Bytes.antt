-- One bit of a byte: what `|` and `&` with a mask of one bit leave of each bit.
-- Assumes nothing.
use Rattle.std.proofs.Common.{◌≡◌, ℕ, zero, suc, ◌-◌, ◌*◌, ◌/◌, ◌%◌, ◌^◌, ◌<◌, Bool, true, false, cond, ◌&&◌, ◌||◌, eqb, refl, ap, ◌∙◌, arith}
use lib.Bits.{bit_and, bit_or, and_shr, and_mod, or_shr, or_mod}
use Rattle.std.proofs.lemmas.Bool.{eqb-true}
use Rattle.std.proofs.lemmas.Bool.Decides.{Decides-below_and}
use Rattle.table.specs.Cells.{bit}

or_digits : (x y : ℕ) → x < 2 → y < 2 → eqb (bit_or x y) 1 ≡ (eqb x 1 || eqb y 1)
or_digits zero zero p q = refl
or_digits zero (suc zero) p q = refl
or_digits (suc zero) zero p q = refl
or_digits (suc zero) (suc zero) p q = refl
or_digits zero (suc (suc y)) p q = absurd (omega arith)
or_digits (suc zero) (suc (suc y)) p q = absurd (omega arith)
or_digits (suc (suc x)) y p q = absurd (omega arith)

and_digits : (x y : ℕ) → x < 2 → y < 2 → eqb (bit_and x y) 1 ≡ (eqb x 1 && eqb y 1)
and_digits zero y p q = refl
and_digits (suc zero) zero p q = refl
and_digits (suc zero) (suc zero) p q = refl
and_digits (suc zero) (suc (suc y)) p q = absurd (omega arith)
and_digits (suc (suc x)) y p q = absurd (omega arith)

bit_or_lem : (n m k : ℕ) → bit (bit_or n m) k ≡ (bit n k || bit m k)
bit_or_lem n m k =
    ap (λ x. eqb (x % 2) 1) (or_shr n m k) ∙ ap (λ x. eqb x 1) (or_mod (n / 2 ^ k) (m / 2 ^ k) 1)
    ∙ or_digits (n / 2 ^ k % 2) (m / 2 ^ k % 2) (omega arith) (omega arith)

bit_and_lem : (n m k : ℕ) → bit (bit_and n m) k ≡ (bit n k && bit m k)
bit_and_lem n m k =
    ap (λ x. eqb (x % 2) 1) (and_shr n m k) ∙ ap (λ x. eqb x 1) (and_mod (n / 2 ^ k) (m / 2 ^ k) 1)
    ∙ and_digits (n / 2 ^ k % 2) (m / 2 ^ k % 2) (omega arith) (omega arith)

-- A test passes at each number below n.
abbrev below : (ℕ → Bool) → ℕ → Bool
below test zero = true
below test (suc n) = test n && below test n

passes : (test : ℕ → Bool) (n : ℕ) → below test n ≡ true → (k : ℕ) → k < n → test k ≡ true
passes test n = (Decides-below_and test (λ k. test k ≡ true) (below test) (λ k. ((λ e. e), (λ e. e))) refl (λ _. refl) n).0

-- Two numbers to each pair of bits of a byte are the same if one computed test over the 64 pairs says so.
abbrev agree : (ℕ → ℕ → ℕ) → (ℕ → ℕ → ℕ) → ℕ → ℕ → Bool
agree f g k m = eqb (f k m) (g k m)

same_by_test :
    (f g : ℕ → ℕ → ℕ) → below (λ k. below (agree f g k) 8) 8 ≡ true → (k m : ℕ) → k < 8 → m < 8 → f k m ≡ g k m
same_by_test f g t k m p q = eqb-true (f k m) (g k m) (passes (agree f g k) 8 (passes (λ k. below (agree f g k) 8) 8 t k p) m q)

-- the masks `1 << k` and `!(1 << k)`
abbrev only : ℕ → ℕ
only k = 1 * 2 ^ k % 256

abbrev all_but : ℕ → ℕ
all_but k = 255 - only k

digit_of_only : (k m : ℕ) → k < 8 → m < 8 → only k / 2 ^ m % 2 ≡ cond (eqb m k) 1 0
digit_of_only = same_by_test (λ k m. only k / 2 ^ m % 2) (λ k m. cond (eqb m k) 1 0) refl

digit_of_all_but : (k m : ℕ) → k < 8 → m < 8 → all_but k / 2 ^ m % 2 ≡ cond (eqb m k) 0 1
digit_of_all_but = same_by_test (λ k m. all_but k / 2 ^ m % 2) (λ k m. cond (eqb m k) 0 1) refl

pub bit_of_set : (n k m : ℕ) → k < 8 → m < 8 → bit (bit_or n (only k)) m ≡ cond (eqb m k) true (bit n m)
bit_of_set n k m p q = bit_or_lem n (only k) m ∙ ap (λ x. bit n m || eqb x 1) (digit_of_only k m p q) ∙ grind arith

pub bit_of_cleared : (n k m : ℕ) → k < 8 → m < 8 → bit (bit_and n (all_but k)) m ≡ cond (eqb m k) false (bit n m)
bit_of_cleared n k m p q = bit_and_lem n (all_but k) m ∙ ap (λ x. bit n m && eqb x 1) (digit_of_all_but k m p q) ∙ grind arith
