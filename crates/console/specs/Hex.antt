-- Bytes as hexadecimal digits, two a byte, the high one first.
-- hex_of: the digits that are written, in lower case. Spells: digits in either case that are these bytes.
-- Assumes nothing.
use Rattle.std.specs.Prelude.{◌≡◌, ℕ, ◌/◌, ◌%◌, true, List, [], ◌∷◌, map}
use Rattle.std.specs.List.{flat_map, list_all}
use Rattle.std.specs.Char.{to_ascii_lowercase, digit_char}
use Rattle.change.specs.WellFormed.{is_byte}

abbrev pub byte_digits : ℕ → List ℕ
byte_digits b = digit_char (b / 16) ∷ digit_char (b % 16) ∷ []

abbrev pub hex_of : List ℕ → List ℕ
hex_of bytes = flat_map byte_digits bytes

abbrev pub AreBytes : List ℕ → Type 0
AreBytes bytes = list_all is_byte bytes ≡ true

abbrev pub Spells : List ℕ → List ℕ → Type 0
Spells digits bytes = map to_ascii_lowercase digits ≡ hex_of bytes

-- What is written reads as the bytes, and as no others.
abbrev pub ReadsBack : Type 0
ReadsBack = (bytes : List ℕ) → AreBytes bytes → Spells (hex_of bytes) bytes × ((others : List ℕ) → AreBytes others → Spells (hex_of bytes) others → others ≡ bytes)
