-- What reading says of bytes, as a function of them: this value and the rest, or the fault. Bytes are read in order, number by number and text by text, and each is looked at as soon as it is whole.
-- Read X: a value with what is left behind it, or why there is none: CutShort, where the bytes end inside a number or a text and all before it was right; Malformed, where something that is whole is wrong.
-- next r k: r, and then k on what is left. only test r: r, and Malformed where the value fails the test.
-- Assumes nothing.
use Rattle.std.specs.Prelude.{ℕ, zero, suc, ◌+◌, ◌*◌, Bool, cond, ◌&&◌, List, [], ◌∷◌, length, take, drop, Ok, Err, Result, nat_eq, nat_le}
use Rattle.change.specs.declared.fault.Fault.{Fault}
use Rattle.change.specs.declared.fault.Fault.TheVariants.{CutShort, Malformed}
use Rattle.change.specs.Model.{Add, Change}
use Rattle.change.specs.WellFormed.{is_byte, is_text, lowest_name, highest_name, highest_line}
use Rattle.change.specs.Bytes.{change_kind}

abbrev pub Read : Type 0 → Type 0
Read X = Result (X × List ℕ) Fault

abbrev pub next : {X Y : Type 0} → Read X → (X → List ℕ → Read Y) → Read Y
next (Ok (x, rest)) k = k x rest
next (Err e) k = Err e

abbrev pub only : {X : Type 0} → (X → Bool) → Read X → Read X
only test r = next r (λ x rest. cond (test x) (Ok (x, rest)) (Err Malformed))

-- what a reader that answers r, and has `rest` still to read, has read
abbrev pub answered : {X Y : Type 0} → (X → Y) → Result X Fault → List ℕ → Read Y
answered f (Ok x) rest = Ok (f x, rest)
answered f (Err e) rest = Err e

abbrev pub plain : {X : Type 0} → X → X
plain x = x

abbrev pub byte_of : List ℕ → Read ℕ
byte_of [] = Err CutShort
byte_of (b ∷ rest) = cond (is_byte b) (Ok (b, rest)) (Err Malformed)

abbrev pub number_of : List ℕ → Read ℕ
number_of [] = Err CutShort
number_of (a ∷ []) = Err CutShort
number_of (a ∷ b ∷ []) = Err CutShort
number_of (a ∷ b ∷ c ∷ []) = Err CutShort
number_of (a ∷ b ∷ c ∷ d ∷ rest) =
    cond (is_byte a && (is_byte b && (is_byte c && is_byte d))) (Ok (a * 16777216 + b * 65536 + c * 256 + d, rest)) (Err Malformed)

abbrev pub part_of : ℕ → List ℕ → Read (List ℕ)
part_of n bytes = cond (nat_le n (length bytes)) (Ok (take n bytes, drop n bytes)) (Err CutShort)

-- a byte that says how many there are, at most `limit`
abbrev pub how_many : ℕ → List ℕ → Read ℕ
how_many limit bytes = only (λ n. nat_le n limit) (byte_of bytes)

-- n values, one behind the other, where which may come next depends on the one before
abbrev pub several : {X : Type 0} → (ℕ → List ℕ → Read X) → (X → ℕ) → ℕ → ℕ → List ℕ → Read (List X)
several one then zero state bytes = Ok ([], bytes)
several one then (suc n) state bytes =
    next (one state bytes) (λ x rest. next (several one then n (then x) rest) (λ xs rest'. Ok (x ∷ xs, rest')))

-- how many, at most `limit`, and so many
abbrev pub counted_of : {X : Type 0} → ℕ → (ℕ → List ℕ → Read X) → (X → ℕ) → ℕ → List ℕ → Read (List X)
counted_of limit one then state bytes = next (how_many limit bytes) (λ n rest. several one then n state rest)

abbrev pub number_within : ℕ → ℕ → List ℕ → Read ℕ
number_within high low bytes = only (λ x. nat_le low x && nat_le x high) (number_of bytes)

-- numbers from `low` to `high`, each higher than the one before it
abbrev pub rising_of : ℕ → ℕ → ℕ → List ℕ → Read (List ℕ)
rising_of limit low high bytes = counted_of limit (number_within high) suc low bytes

abbrev pub text_of : List ℕ → Read (List ℕ)
text_of bytes = next (how_many 120 bytes) (λ n rest. only is_text (part_of n rest))

abbrev pub add_of : List ℕ → Read Add
add_of bytes =
    next (number_of bytes) (λ a rest. next (number_of rest) (λ b rest'. next (text_of rest') (λ t rest''. Ok (record { after = a; before = b; text = t }, rest''))))

abbrev pub adds_of : List ℕ → Read (List Add)
adds_of bytes = counted_of 64 (λ _. add_of) (λ _. 0) 0 bytes

abbrev pub needs_of : List ℕ → Read (List ℕ)
needs_of bytes = rising_of 32 lowest_name highest_name bytes

abbrev pub kills_of : List ℕ → Read (List ℕ)
kills_of bytes = rising_of 64 0 highest_line bytes

-- what stands behind the first byte of a change
abbrev pub body_of : List ℕ → Read Change
body_of bytes =
    next (number_within highest_name lowest_name bytes) (λ n rest₁. next (byte_of rest₁) (λ s rest₂. next (needs_of rest₂) (λ ns rest₃.
    next (adds_of rest₃) (λ adds rest₄. next (kills_of rest₄) (λ ks rest₅.
    Ok (record { name = n; sheet = s; needs = ns; adds = adds; kills = ks }, rest₅))))))

abbrev pub change_of : List ℕ → Read Change
change_of bytes = next (only (nat_eq change_kind) (byte_of bytes)) (λ k rest. body_of rest)
