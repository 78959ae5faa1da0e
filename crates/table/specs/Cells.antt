-- How a table of bits lies in bytes: row after row, each row in whole bytes, and in a byte the lowest bit first.
-- bit n k: bit k of n. stride slots: the bytes of one row. byte_of slots i j: the byte that has the bit of row i and column j.
-- at bits slots i j: what the table holds at row i and column j, which is false outside of it. Sized bits slots: a table of so many slots fits the bytes.
-- Assumes nothing.
use Rattle.std.specs.Prelude.{ℕ, ◌+◌, ◌*◌, ◌/◌, ◌%◌, ◌^◌, ◌≤◌, Bool, ◌&&◌, List, length, ◌==◌, nat_lt, slice_index}

abbrev pub bit : ℕ → ℕ → Bool
bit n k = n / 2 ^ k % 2 == 1

-- the slots that a table may have at most
abbrev pub most_slots : ℕ
most_slots = 65536

abbrev pub stride : ℕ → ℕ
stride slots = (slots + 7) / 8

abbrev pub byte_of : ℕ → ℕ → ℕ → ℕ
byte_of slots i j = i * stride slots + j / 8

abbrev pub at : List ℕ → ℕ → ℕ → ℕ → Bool
at bits slots i j = nat_lt i slots && (nat_lt j slots && bit (slice_index bits (byte_of slots i j)) (j % 8))

pub record Sized (bits : List ℕ) (slots : ℕ) : Type 0 where
  pub least : 2 ≤ slots
  pub most : slots ≤ most_slots
  pub room : slots * stride slots ≤ length bits
