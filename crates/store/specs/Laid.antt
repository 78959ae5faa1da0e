-- Changes as they lie in an area, that those which a store keeps lie so, and that what lies so is whole.
-- Laid area used entries cs: the first `used` bytes of the area are those of the changes cs, one behind the other, each well-formed, and these are their entries.
-- Assumes nothing.
use Rattle.std.specs.Prelude.{◌≡◌, ℕ, ◌≤◌, true, List, length, take}
use Rattle.std.specs.List.{flat_map, list_all}
use Rattle.change.specs.Bytes.{change_bytes}
use Rattle.change.specs.Model.{Change}
use Rattle.change.specs.WellFormed.{well_formed}
use Rattle.store.specs.declared.Store.{Store}
use Rattle.store.specs.declared.entry.Entry.{Entry}
use Rattle.store.specs.Entries.{entries_from}
use Rattle.store.specs.InUse.{kept_in}
use Rattle.store.specs.Kept.{entries_of, kept, IsWhole, Whole}

pub record Laid (area : List ℕ) (used : ℕ) (entries : List Entry) (cs : List Change) : Type 0 where
  pub inside : used ≤ length area
  pub formed : list_all well_formed cs ≡ true
  pub bytes : take used area ≡ flat_map change_bytes cs
  pub marked : entries ≡ entries_from 0 cs

abbrev pub WholeIsLaid : Type 0
WholeIsLaid =
    ((s : Store) → Whole s × Laid s.area.now s.used (entries_of s) (kept s))
    × ((area : List ℕ) (used : ℕ) (marks : List Entry) →
    (IsWhole area used marks → Laid area used marks (kept_in (take used area) (length marks)))
    × ((cs : List Change) → Laid area used marks cs → IsWhole area used marks × (kept_in (take used area) (length marks) ≡ cs)))
