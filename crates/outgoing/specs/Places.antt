-- The changes of a list by their places.
-- change_at K p: the change at place p of K. changes_at K ps: those at the places ps. name_at K p: the name of one.
-- ArePlaces K ps: at each place of ps K has a change.
-- Assumes nothing.
use Rattle.std.specs.Prelude.{ℕ, ◌<◌, List, [], map, length, slice_index_or}
use Rattle.change.specs.Membership.{In}
use Rattle.change.specs.Model.{Change}

-- what stands past the end
abbrev pub no_change : Change
no_change = record { name = 0; sheet = 0; needs = []; adds = []; kills = [] }

abbrev pub change_at : List Change → ℕ → Change
change_at K p = slice_index_or K p no_change

abbrev pub changes_at : List Change → List ℕ → List Change
changes_at K ps = map (change_at K) ps

abbrev pub name_at : List Change → ℕ → ℕ
name_at K p = (change_at K p).name

abbrev pub ArePlaces : List Change → List ℕ → Type 0
ArePlaces K ps = (p : ℕ) → In p ps → p < length K
