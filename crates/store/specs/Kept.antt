-- The changes that a store keeps, oldest first: what its bytes read as.
-- kept s: these. names s, sheets s: the name and the sheet of each. IsWhole area used marks: the bytes in use are changes, as many as there are entries, with nothing behind them, and the entries are those changes' own. Whole s: so it is in a store.
-- Assumes nothing.
use Rattle.std.specs.Prelude.{◌≡◌, ℕ, ◌≤◌, List, [], map, length, take, Ok, vec_items}
use Rattle.change.specs.Model.{Change}
use Rattle.store.specs.declared.Store.{Store}
use Rattle.store.specs.declared.entry.Entry.{Entry}
use Rattle.store.specs.Entries.{entries_from}
use Rattle.store.specs.InUse.{changes_of, kept_in}

abbrev pub bytes_of : Store → List ℕ
bytes_of s = take s.used s.area.now

abbrev pub entries_of : Store → List Entry
entries_of s = vec_items s.entries

abbrev pub kept : Store → List Change
kept s = kept_in (bytes_of s) (length (entries_of s))

abbrev pub names : Store → List ℕ
names s = map (λ c. c.name) (kept s)

abbrev pub sheets : Store → List ℕ
sheets s = map (λ c. c.sheet) (kept s)

pub record IsWhole (area : List ℕ) (used : ℕ) (marks : List Entry) : Type 0 where
  pub inside : used ≤ length area
  pub reads : changes_of (length marks) (take used area) ≡ Ok (kept_in (take used area) (length marks), [])
  pub entries : marks ≡ entries_from 0 (kept_in (take used area) (length marks))

abbrev pub Whole : Store → Type 0
Whole s = IsWhole s.area.now s.used (entries_of s)
