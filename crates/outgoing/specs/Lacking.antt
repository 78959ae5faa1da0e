-- The changes that are lacking, as they are gathered, and the changes of a store that they tell of.
-- places_of ls: the places of ls. IsOf K l: l tells of the change at its place of K. ToldOf K ls: each of ls does.
-- Assumes nothing.
use Rattle.std.specs.Prelude.{◌≡◌, ℕ, ◌<◌, List, map, length}
use Rattle.change.specs.Few.{listed}
use Rattle.change.specs.Membership.{In}
use Rattle.change.specs.Model.{Change}
use Rattle.outgoing.specs.declared.lacking.Lacking.{Lacking}
use Rattle.outgoing.specs.Places.{change_at, name_at}

abbrev pub places_of : List Lacking → List ℕ
places_of ls = map (λ l. l.place) ls

pub record IsOf (K : List Change) (l : Lacking) : Type 0 where
  pub within : l.place < length K
  pub name : l.name.0 ≡ name_at K l.place
  pub needs : listed l.needs ≡ (change_at K l.place).needs

abbrev pub ToldOf : List Change → List Lacking → Type 0
ToldOf K ls = (l : Lacking) → In l ls → IsOf K l
