-- A message: a byte that says of which kind it is, how many values there are, in two bytes with the high one first, and these one behind the other.
-- pair_bytes n: n in two bytes. head_bytes kind n: the kind, and how many. message_bytes kind f xs: the message of the values xs, each written by f.
-- message_of kind limit one then state: what reading says of bytes as a message of this kind with at most `limit` values, each read by `one`, where which may come next depends on the one before (as in `several`).
-- Assumes nothing.
use Rattle.std.specs.Prelude.{ℕ, ◌+◌, ◌*◌, ◌/◌, ◌%◌, List, [], ◌∷◌, ◌++◌, length, Ok, nat_eq, nat_le}
use Rattle.std.specs.List.{flat_map}
use Rattle.change.specs.Reading.{Read, next, only, byte_of, several}

abbrev pub pair_bytes : ℕ → List ℕ
pair_bytes n = n / 256 % 256 ∷ n % 256 ∷ []

abbrev pub head_bytes : ℕ → ℕ → List ℕ
head_bytes kind n = kind ∷ pair_bytes n

abbrev pub message_bytes : {X : Type 0} → ℕ → (X → List ℕ) → List X → List ℕ
message_bytes kind f xs = head_bytes kind (length xs) ++ flat_map f xs

abbrev pub pair_of : List ℕ → Read ℕ
pair_of bytes = next (byte_of bytes) (λ a rest. next (byte_of rest) (λ b rest'. Ok (a * 256 + b, rest')))

-- the kind, and how many there are, at most `limit`
abbrev pub head_of : ℕ → ℕ → List ℕ → Read ℕ
head_of kind limit bytes = next (only (nat_eq kind) (byte_of bytes)) (λ _ rest. only (λ n. nat_le n limit) (pair_of rest))

abbrev pub message_of : {X : Type 0} → ℕ → ℕ → (ℕ → List ℕ → Read X) → (X → ℕ) → ℕ → List ℕ → Read (List X)
message_of kind limit one then state bytes = next (head_of kind limit bytes) (λ n rest. several one then n state rest)
