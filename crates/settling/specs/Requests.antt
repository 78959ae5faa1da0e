-- The requests that put texts in the place of a block: its lines are struck out, and each gets a new line with its text, one behind the other.
-- chained m a n texts: an add to each text: the first goes behind the line a, each other behind the one before it, all before the line m; their lines are numbered from n on.
-- numbers_from n xs: as many numbers as xs has members, from n on. last_of a us: the last of us, or a where there is none.
-- request text m a name piece sheet: what strikes out the lines of a piece of the block, and adds their texts by a change of this name.
-- requests text m a name pieces sheet: one request to a piece, each behind the last line of the one before it. new_lines name pieces: the lines that they add.
-- in_pieces order: the lines of `order` in pieces of 30, the last maybe shorter: a change names a piece and two lines more, and may need 32 changes.
-- made_all rs B: the book after the requests rs, made one after the other, unless one is refused.
-- Assumes nothing.
use Rattle.std.specs.Prelude.{ℕ, zero, suc, ◌+◌, List, [], ◌∷◌, ◌++◌, map, length, take, drop, Ok, Err, Result}
use Rattle.change.specs.declared.refusal.Refusal.{Refusal}
use Rattle.change.specs.Model.{Add, line_of}
use Rattle.history.specs.declared.Event.{Event}
use Rattle.history.specs.Book.{Book}
use Rattle.making.specs.Request.{Request}
use Rattle.making.specs.Making.{made}

abbrev pub chained : ℕ → ℕ → ℕ → List (List ℕ) → List Add
chained m a n [] = []
chained m a n (text ∷ texts) = record { after = a; before = m; text = text } ∷ chained m n (suc n) texts

abbrev pub numbers_from : {X : Type 0} → ℕ → List X → List ℕ
numbers_from n [] = []
numbers_from n (x ∷ xs) = n ∷ numbers_from (suc n) xs

abbrev pub last_of : ℕ → List ℕ → ℕ
last_of a [] = a
last_of a (u ∷ us) = last_of u us

abbrev pub request : (ℕ → List ℕ) → ℕ → ℕ → ℕ → List ℕ → ℕ → Request
request text m a name piece sheet = record { sheet = sheet; adds = chained m a (line_of name 0) (map text piece); kills = piece }

-- the lines that a change of this name adds for a piece
abbrev pub new_of : ℕ → List ℕ → List ℕ
new_of name piece = numbers_from (line_of name 0) piece

-- the plant's next name is 16 above the last
abbrev pub requests : (ℕ → List ℕ) → ℕ → ℕ → ℕ → List (List ℕ) → ℕ → List Request
requests text m a name [] sheet = []
requests text m a name (piece ∷ pieces) sheet = request text m a name piece sheet ∷ requests text m (last_of a (new_of name piece)) (name + 16) pieces sheet

abbrev pub new_lines : ℕ → List (List ℕ) → List ℕ
new_lines name [] = []
new_lines name (piece ∷ pieces) = new_of name piece ++ new_lines (name + 16) pieces

abbrev pub piece_limit : ℕ
piece_limit = 30

-- at most n pieces
abbrev pub cut_up : ℕ → List ℕ → List (List ℕ)
cut_up zero order = []
cut_up (suc n) [] = []
cut_up (suc n) (u ∷ us) = take piece_limit (u ∷ us) ∷ cut_up n (drop piece_limit (u ∷ us))

abbrev pub in_pieces : List ℕ → List (List ℕ)
in_pieces order = cut_up (length order) order

abbrev pub going_on : (Book → Result Book Refusal) → Result (List Event × Book) Refusal → Result Book Refusal
going_on next (Ok (es, A)) = next A
going_on next (Err e) = Err e

abbrev pub made_all : List Request → Book → Result Book Refusal
made_all [] B = Ok B
made_all (r ∷ rs) B = going_on (made_all rs) (made B r)
