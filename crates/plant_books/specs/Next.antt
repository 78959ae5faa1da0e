-- Where the change that is tried next stands among those that wait.
-- PlaceOf W p o: p is the place in W of the change o, or none where o is. Marks W m o: m is the place and the name of the change o of W. lower_mark one behind: the one with the lower name.
-- Assumes nothing.
use Rattle.std.specs.Prelude.{◌≡◌, ℕ, cond, List, Some, None, Option, nat_lt}
use Rattle.std.specs.List.{slice_get}
use Rattle.change.specs.Model.{Change}
use Rattle.plant_books.specs.declared.reads.Mark.{Mark}

abbrev pub PlaceOf : List Change → Option ℕ → Option Change → Type 0
PlaceOf W None o = o ≡ None
PlaceOf W (Some p) o = (c : Change) × (o ≡ Some c) × (slice_get W p ≡ Some c)

abbrev pub Marks : List Change → Option Mark → Option Change → Type 0
Marks W None o = o ≡ None
Marks W (Some m) o = (c : Change) × (o ≡ Some c) × (slice_get W m.place ≡ Some c) × (m.name.0 ≡ c.name)

abbrev pub lower_mark : Mark → Option Mark → Mark
lower_mark one None = one
lower_mark one (Some other) = cond (nat_lt other.name.0 one.name.0) other one
