-- A book as a value, and the plain steps that it goes by: one change comes in, waits, or waits no longer.
-- Book: the plant whose book it is; the highest count of that plant's changes that ever came in; the changes of the book, the latest first; and those that wait, the oldest first.
-- empty plant: a book without changes. lines_of S: how many lines the changes S add. has_room B c: c would not pass a limit. is_ready B c: what c needs is in B.
-- enter B c: c comes in. wait B c: c waits from now on. waits_no_more B n: the change of the name n doesn't wait any more. next_count B, next_name B: the count and the name of the plant's next change.
-- Assumes nothing.
use Rattle.std.specs.Prelude.{ℕ, suc, ◌+◌, Bool, cond, ◌&&◌, List, [], ◌∷◌, ◌++◌, length, sum_by, ◌==◌, nat_le, nat_lt}
use Rattle.change.specs.Model.{Change, named, count_of, plant_of}
use Rattle.order.specs.Theorems.{without}
use Rattle.verdict.specs.Verdict.{needs_here}

pub record Book : Type 0 where
  pub plant : ℕ
  pub highest : ℕ
  pub changes : List Change
  pub waiting : List Change

abbrev pub empty : ℕ → Book
empty plant = record { plant = plant; highest = 0; changes = []; waiting = [] }

abbrev pub change_limit : ℕ
change_limit = 1024

abbrev pub line_limit : ℕ
line_limit = 2048

abbrev pub wait_limit : ℕ
wait_limit = 64

-- of all sheets, dead or alive
abbrev pub lines_of : List Change → ℕ
lines_of = sum_by (λ c. length c.adds)

abbrev pub has_room : Book → Change → Bool
has_room B c = nat_lt (length B.changes) change_limit && nat_le (lines_of B.changes + length c.adds) line_limit

abbrev pub is_ready : Book → Change → Bool
is_ready B = needs_here B.changes

-- the higher of a count and that of a change, if it is of the plant
abbrev pub counting : ℕ → Change → ℕ → ℕ
counting plant c n = cond (plant_of c.name == plant && nat_lt n (count_of c.name)) (count_of c.name) n

abbrev pub counting_all : ℕ → List Change → ℕ → ℕ
counting_all plant [] n = n
counting_all plant (c ∷ S) n = counting plant c (counting_all plant S n)

abbrev pub next_count : Book → ℕ
next_count B = suc (counting_all B.plant B.waiting B.highest)

abbrev pub next_name : Book → ℕ
next_name B = named (next_count B) B.plant

abbrev pub enter : Book → Change → Book
enter B c = record { plant = B.plant; highest = counting B.plant c B.highest; changes = c ∷ B.changes; waiting = B.waiting }

abbrev pub wait : Book → Change → Book
wait B c = record { plant = B.plant; highest = B.highest; changes = B.changes; waiting = B.waiting ++ c ∷ [] }

abbrev pub waits_no_more : Book → ℕ → Book
waits_no_more B n = record { plant = B.plant; highest = B.highest; changes = B.changes; waiting = without n B.waiting }
