-- A change as it lies in lent bytes, and the change that this is.
-- cut bytes s: the part of the bytes that s marks out. inside bytes s: they reach so far. add_in bytes a: the add that lies there. add_seen a: the add that a view of one shows. change_by: a change by its parts.
-- Assumes nothing.
use Rattle.std.specs.Prelude.{ℕ, ◌+◌, Bool, List, [], map, length, take, drop, nat_le}
use Rattle.change.specs.declared.span.Span.{Span}
use Rattle.change.specs.declared.span.AddAt.{AddAt}
use Rattle.change.specs.declared.add.AddView.{AddView}
use Rattle.change.specs.declared.few.Few.{Few}
use Rattle.change.specs.Few.{listed}
use Rattle.change.specs.Model.{Add, Change}

abbrev pub blank : AddAt
blank = record { after = record { 0 = 0 }; before = record { 0 = 0 }; text = record { start = 0; len = 0 } }

abbrev pub cut : List ℕ → Span → List ℕ
cut bytes s = take s.len (drop s.start bytes)

abbrev pub inside : List ℕ → Span → Bool
inside bytes s = nat_le (s.start + s.len) (length bytes)

abbrev pub add_in : List ℕ → AddAt → Add
add_in bytes a = record { after = a.after.0; before = a.before.0; text = cut bytes a.text }

abbrev pub add_inside : List ℕ → AddAt → Bool
add_inside bytes a = inside bytes a.text

abbrev pub add_seen : AddView → Add
add_seen a = record { after = a.after.0; before = a.before.0; text = a.text.now }

-- what stands past the end
abbrev pub no_add : AddView
no_add = record { after = record { 0 = 0 }; before = record { 0 = 0 }; text = record { ref_ptr = (0, 0); now = [] } }

abbrev pub adds_seen : Few AddView 64 → List Add
adds_seen adds = map add_seen (listed adds)

abbrev pub change_by : ℕ → ℕ → List ℕ → List AddView → List ℕ → Change
change_by name sheet needs adds kills = record { name = name; sheet = sheet; needs = needs; adds = map add_seen adds; kills = kills }

abbrev pub change_from : ℕ → ℕ → Few ℕ 32 → Few AddView 64 → Few ℕ 64 → Change
change_from name sheet needs adds kills = change_by name sheet (listed needs) (listed adds) (listed kills)
