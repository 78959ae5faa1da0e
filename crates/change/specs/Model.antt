-- What a change is, apart from how it lies in memory.
-- Change: what one plant did to one sheet at one time (elsewhere: a patch). Add: a new line, by the two lines that it goes between and its text.
-- needs: the names of the changes without which it can't stand (dependencies). kills: the lines that it strikes out, which keep their places (tombstones).
-- Assumes nothing.
use Rattle.std.specs.Prelude.{ℕ, ◌+◌, ◌*◌, ◌/◌, ◌%◌, List}

pub record Add : Type 0 where
  pub after : ℕ
  pub before : ℕ
  pub text : List ℕ

pub record Change : Type 0 where
  pub name : ℕ
  pub sheet : ℕ
  pub needs : List ℕ
  pub adds : List Add
  pub kills : List ℕ

-- A name is the plant's count of its changes, from 1, times 16, and the plant, 0 to 15.
abbrev pub named : ℕ → ℕ → ℕ
named count plant = count * 16 + plant

abbrev pub count_of : ℕ → ℕ
count_of name = name / 16

abbrev pub plant_of : ℕ → ℕ
plant_of name = name % 16

-- A line's number is the name of the change that adds it times 64, and the add's place in the change, from 0. Lines 0 and 1 are the start and the end of every sheet.
abbrev pub line_of : ℕ → ℕ → ℕ
line_of name place = name * 64 + place

abbrev pub bringer : ℕ → ℕ
bringer line = line / 64
