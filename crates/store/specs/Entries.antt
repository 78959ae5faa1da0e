-- The entries of changes that lie one behind the other.
-- start_of cs i: where the change at place i begins; past the last, where they all end. entries_from start cs: of the changes cs, the first of which begins at `start`. lowered by e: the entry e, beginning `by` bytes earlier.
-- Assumes nothing.
use Rattle.std.specs.Prelude.{ℕ, ◌+◌, ◌-◌, List, [], ◌∷◌, length, take}
use Rattle.std.specs.List.{flat_map}
use Rattle.change.specs.Bytes.{change_bytes}
use Rattle.change.specs.Model.{Change}
use Rattle.store.specs.declared.entry.Entry.{Entry}

abbrev pub start_of : List Change → ℕ → ℕ
start_of cs i = length (flat_map change_bytes (take i cs))

abbrev pub entry_of : ℕ → Change → Entry
entry_of start c = record { start = start; name = record { 0 = c.name }; sheet = record { 0 = c.sheet } }

abbrev pub entries_from : ℕ → List Change → List Entry
entries_from start [] = []
entries_from start (c ∷ cs) = entry_of start c ∷ entries_from (start + length (change_bytes c)) cs

abbrev pub lowered : ℕ → Entry → Entry
lowered by e = record { start = e.start - by; name = e.name; sheet = e.sheet }
