-- The limits on a change, each stated once: what reading tests, what writing relies on, and what the theory of lines asks.
-- well_formed: a change within them all.
-- Assumes nothing.
use Rattle.std.specs.Prelude.{ℕ, suc, Bool, true, false, not, ◌&&◌, ◌||◌, List, [], ◌∷◌, length, ◌==◌, nat_le, nat_lt}
use Rattle.std.specs.List.{list_all}
use Rattle.change.specs.Model.{Add, Change}

-- numbers from `low` to `high`, each higher than the one before it
abbrev pub rising : ℕ → ℕ → List ℕ → Bool
rising low high [] = true
rising low high (n ∷ ns) = (nat_le low n && nat_le n high) && rising (suc n) high ns

abbrev pub is_byte : ℕ → Bool
is_byte n = nat_lt n 256

-- a count from 1 to 4,194,303, so that the number of each line of the change fits 32 bits
abbrev pub lowest_name : ℕ
lowest_name = 16

abbrev pub highest_name : ℕ
highest_name = 67108863

abbrev pub is_name : ℕ → Bool
is_name n = nat_le lowest_name n && nat_le n highest_name

abbrev pub highest_line : ℕ
highest_line = 4294967295

abbrev pub is_line : ℕ → Bool
is_line n = nat_le n highest_line

-- a space, a letter, a digit or a sign of ASCII
abbrev pub is_printable : ℕ → Bool
is_printable b = nat_le 32 b && nat_le b 126

-- `<<` and `>>` alone, which mark a block where a sheet is shown
abbrev pub is_mark : List ℕ → Bool
is_mark [] = false
is_mark (a ∷ []) = false
is_mark (a ∷ b ∷ []) = (a == 60 && b == 60) || (a == 62 && b == 62)
is_mark (a ∷ b ∷ c ∷ rest) = false

abbrev pub is_text : List ℕ → Bool
is_text bytes = nat_le (length bytes) 120 && (list_all is_printable bytes && not (is_mark bytes))

abbrev pub is_add : Add → Bool
is_add a = is_line a.after && (is_line a.before && is_text a.text)

abbrev pub are_needs : List ℕ → Bool
are_needs names = nat_le (length names) 32 && rising lowest_name highest_name names

abbrev pub are_adds : List Add → Bool
are_adds adds = nat_le (length adds) 64 && list_all is_add adds

abbrev pub are_kills : List ℕ → Bool
are_kills lines = nat_le (length lines) 64 && rising 0 highest_line lines

abbrev pub well_formed : Change → Bool
well_formed c = is_name c.name && (is_byte c.sheet && (are_needs c.needs && (are_adds c.adds && are_kills c.kills)))
