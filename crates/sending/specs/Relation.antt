-- What it is to send a letter: a relation that a reader can judge, which says nothing of how the letter is found.
-- GoesFirst T c: c needs none of T. Ordered cs: of the changes cs each comes once, after those of them that it needs, and is the lowest name of all that could come in its place.
-- Sends has S letter: the letter has exactly the changes of S whose names are not among `has`, in that order.
-- Assumes nothing.
use Rattle.std.specs.Prelude.{ℕ, ◌≤◌, ◌↔◌, List, [], ◌∷◌}
use Rattle.change.specs.Membership.{In}
use Rattle.change.specs.Model.{Change}
use Rattle.order.specs.Names.{HasName}

abbrev pub GoesFirst : List Change → Change → Type 0
GoesFirst T c = (d : Change) → In d T → In d.name c.needs → ⊥

abbrev pub Ordered : List Change → Type 0
Ordered [] = Unit {0}
Ordered (c ∷ cs) =
    (HasName cs c.name → ⊥) × GoesFirst (c ∷ cs) c × ((d : Change) → In d cs → GoesFirst (c ∷ cs) d → c.name ≤ d.name) × Ordered cs

pub record Sends (has : List ℕ) (S : List Change) (letter : List Change) : Type 0 where
  pub exactly : (c : Change) → In c letter ↔ (In c S × (In c.name has → ⊥))
  pub ordered : Ordered letter
