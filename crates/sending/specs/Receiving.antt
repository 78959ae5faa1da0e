-- What comes of a letter: its changes are taken one after the other.
-- received B cs: the events, as they come, and the book after. Away B c: the book B turns c away, and has no change of its name.
-- AwayAmong B cs: when its turn comes, one of the changes cs is turned away so.
-- Assumes nothing.
use Rattle.std.specs.Prelude.{◌≡◌, ◌⊎◌, List, [], ◌∷◌, ◌++◌}
use Rattle.change.specs.declared.refusal.Refusal.{Refusal}
use Rattle.change.specs.Model.{Change}
use Rattle.order.specs.Names.{HasName}
use Rattle.history.specs.declared.Outcome.TheVariants.{Refused}
use Rattle.history.specs.declared.Event.{Event}
use Rattle.history.specs.Book.{Book}
use Rattle.history.specs.Taking.{verdict, take}

-- some events, and then those of what follows
abbrev pub and_then : List Event → List Event × Book → List Event × Book
and_then es (fs, B) = (es ++ fs, B)

abbrev pub received : Book → List Change → List Event × Book
received B [] = ([], B)
received B (c ∷ cs) = and_then (take B c).0 (received (take B c).1 cs)

abbrev pub Away : Book → Change → Type 0
Away B c = (r : Refusal) × (verdict B c ≡ Refused r) × (HasName B.changes c.name → ⊥)

abbrev pub AwayAmong : Book → List Change → Type 0
AwayAmong B [] = ⊥
AwayAmong B (c ∷ cs) = Away B c ⊎ AwayAmong (take B c).1 cs
