-- What a request may name, in the words of the subject: lines of the book and of its own earlier adds, and of its sheet only.
-- OneOf name count u: u is one of the first so many lines of the change of this name. Adds d u: the change d adds line u. InBook B u: some change of the book does.
-- KnownTo B k u: the add at place k may name u. AddsKnown B k adds: these, from place k on, name such lines. AllKnown B r: all lines that r names are known.
-- OnSheet B r: they are of its sheet, and neither edge is struck out.
-- Assumes nothing.
use Rattle.std.specs.Prelude.{◌≡◌, ℕ, suc, ◌<◌, ◌≤◌, ◌⊎◌, List, [], ◌∷◌, length}
use Rattle.change.specs.Membership.{In}
use Rattle.change.specs.Model.{Add, Change, line_of}
use Rattle.history.specs.Book.{Book, next_name}
use Rattle.making.specs.Request.{Request, named_lines}

abbrev pub OneOf : ℕ → ℕ → ℕ → Type 0
OneOf name count u = (k : ℕ) × (k < count) × (u ≡ line_of name k)

abbrev pub Adds : Change → ℕ → Type 0
Adds d = OneOf d.name (length d.adds)

abbrev pub InBook : Book → ℕ → Type 0
InBook B u = (d : Change) × In d B.changes × Adds d u

abbrev pub KnownTo : Book → ℕ → ℕ → Type 0
KnownTo B k u = (u < 2) ⊎ (OneOf (next_name B) k u ⊎ InBook B u)

abbrev pub AddsKnown : Book → ℕ → List Add → Type 0
AddsKnown B k [] = Unit {0}
AddsKnown B k (a ∷ adds) = KnownTo B k a.after × KnownTo B k a.before × AddsKnown B (suc k) adds

abbrev pub AllKnown : Book → Request → Type 0
AllKnown B r = AddsKnown B 0 r.adds × ((u : ℕ) → In u r.kills → InBook B u)

abbrev pub OnSheet : Book → Request → Type 0
OnSheet B r = ((u : ℕ) → In u (named_lines r) → (d : Change) → In d B.changes → Adds d u → d.sheet ≡ r.sheet) × ((u : ℕ) → In u r.kills → 2 ≤ u)
