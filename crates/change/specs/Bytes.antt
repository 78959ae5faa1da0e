-- The bytes of a change, every number with its high byte first.
-- change_bytes: 1, name (4), sheet (1), how many needs (1), these (4 each), how many adds (1), each the two lines (4 each), length (1) and text, how many kills (1), these (4 each).
-- A line's own number isn't written: it follows from the name and the add's place.
-- Assumes nothing.
use Rattle.std.specs.Prelude.{ℕ, ◌/◌, ◌%◌, List, [], ◌∷◌, ◌++◌, length}
use Rattle.std.specs.List.{flat_map}
use Rattle.change.specs.Model.{Add, Change}

abbrev pub number_bytes : ℕ → List ℕ
number_bytes n = n / 16777216 % 256 ∷ n / 65536 % 256 ∷ n / 256 % 256 ∷ n % 256 ∷ []

-- how many there are, and these
abbrev pub counted : {X : Type 0} → (X → List ℕ) → List X → List ℕ
counted f xs = length xs ∷ flat_map f xs

abbrev pub text_bytes : List ℕ → List ℕ
text_bytes text = length text ∷ text

abbrev pub add_bytes : Add → List ℕ
add_bytes a = number_bytes a.after ++ (number_bytes a.before ++ text_bytes a.text)

abbrev pub change_kind : ℕ
change_kind = 1

abbrev pub change_bytes : Change → List ℕ
change_bytes c =
    change_kind ∷ (number_bytes c.name ++ (c.sheet ∷ (counted number_bytes c.needs ++ (counted add_bytes c.adds ++ counted number_bytes c.kills))))
