-- What is proved of the order of lines. Each is a type; a term of that type in proofs/ is its proof, and a function of src/ names it in its contract.
-- None supposes who made the changes: a set is any list of changes that a book may have been handed, and each theorem says what it asks of the set.
-- Assumes nothing.
use Rattle.std.specs.Prelude.{◌≡◌, ℕ, ◌≤◌, not, List, ◌∷◌, ◌++◌, Decides, filter, ◌==◌}
use Rattle.change.specs.Membership.{In, Within, SameMembers}
use Rattle.change.specs.Model.{Change}
use Rattle.order.specs.Order.{Put, Order, Line, AtOrBefore}
use Rattle.order.specs.Table.{step, bef, cleared, placed}
use Rattle.order.specs.Good.{Stands, NewOn, Good, NoneNames, dropped}
use Rattle.order.specs.Fits.{Fits, Listed, Sound, Closed, OneChange}

-- The order is decided by the recursion on the adds as they came.
abbrev pub Decided : Type 0
Decided = (L : List Change) → Listed L → (u v : ℕ) → Decides (bef (placed L) u v) (Order L u v)

-- The same of puts alone: the recursion decides their order, and a step of it gives the order with one more put.
abbrev pub StepIsOrder : Type 0
StepIsOrder =
    (Q : List Put) → Good Q →
    ((u v : ℕ) → Decides (bef Q u v) (Stands Q u v)) × ((p : Put) → NewOn Q p → Good (p ∷ Q) × ((u v : ℕ) → Decides (step (bef Q) p u v) (Stands (p ∷ Q) u v)))

-- Without a line that no put goes behind or before, the table is that of the other puts.
abbrev pub ClearedIsOrder : Type 0
ClearedIsOrder =
    (Q : List Put) (x : ℕ) → Good Q → 2 ≤ x → NoneNames x Q →
    Good (dropped x Q) × ((u v : ℕ) → cleared (bef Q) x u v ≡ bef (dropped x Q) u v)

-- No line stands before itself.
abbrev pub NoRing : Type 0
NoRing = (S : List Change) → Sound S → (u : ℕ) → Order S u u → ⊥

-- Every added line stands between the start and the end.
abbrev pub Inside : Type 0
Inside = (S : List Change) → Sound S → (u : ℕ) → Line S u → 2 ≤ u → Order S 0 u × Order S u 1

-- Any two sound sets with one change to a name agree on the lines that both have.
abbrev pub Agree : Type 0
Agree = (S R : List Change) → Sound S → Sound R → OneChange S R → (u v : ℕ) → Line S u → Line S v → Line R u → Line R v → Order S u v → Order R u v

-- A change that comes alters nothing among the lines that stood.
abbrev pub Steady : Type 0
Steady = (S : List Change) (c : Change) → Sound S → Fits S c → (u v : ℕ) → Line S u → Line S v → (Order S u v → Order (c ∷ S) u v) × (Order (c ∷ S) u v → Order S u v)

-- The order depends on the set alone: two listings of it, worked out as they came, give the same table.
abbrev pub SetAlone : Type 0
SetAlone = (L M : List Change) → Listed L → Listed M → SameMembers L M → (u v : ℕ) → bef (placed L) u v ≡ bef (placed M) u v

-- A sound set is closed, and has one change to a name.
abbrev pub SoundIsClosed : Type 0
SoundIsClosed = (S : List Change) → Sound S → Closed S × OneChange S S

-- The union of two closed sets is closed; that of two sound ones with one change to a name is sound.
abbrev pub UnionClosed : Type 0
UnionClosed = (S R : List Change) → Closed S → Closed R → Closed (S ++ R)

abbrev pub UnionSound : Type 0
UnionSound = (S R : List Change) → Sound S → Sound R → OneChange S R → Sound (S ++ R)

-- A closed part of a sound set is sound.
abbrev pub PartSound : Type 0
PartSound = (S R : List Change) → Sound S → Within R S → Closed R → Sound R

-- the set without the change of this name
abbrev pub without : ℕ → List Change → List Change
without n = filter (λ c. not (c.name == n))

-- no change of the set needs the one of this name
abbrev pub NoneNeeds : ℕ → List Change → Type 0
NoneNeeds n S = (d : Change) → In d S → In n d.needs → ⊥

-- Without a change that none of it needs a sound set is sound, and what remains stands as it did.
abbrev pub TakenBack : Type 0
TakenBack =
    (S : List Change) (n : ℕ) → Sound S → NoneNeeds n S →
    Sound (without n S) × ((u v : ℕ) → Line (without n S) u → Line (without n S) v → (Order (without n S) u v → Order S u v) × (Order S u v → Order (without n S) u v))

-- Of any two lines there is a least line at or behind both, and a greatest at or before both.
abbrev pub Joins : Type 0
Joins =
    (S : List Change) → Sound S → (u v : ℕ) → Line S u → Line S v →
    (j : ℕ) × Line S j × AtOrBefore (Order S) u j × AtOrBefore (Order S) v j × ((w : ℕ) → Line S w → AtOrBefore (Order S) u w → AtOrBefore (Order S) v w → AtOrBefore (Order S) j w)

abbrev pub Meets : Type 0
Meets =
    (S : List Change) → Sound S → (u v : ℕ) → Line S u → Line S v →
    (m : ℕ) × Line S m × AtOrBefore (Order S) m u × AtOrBefore (Order S) m v × ((w : ℕ) → Line S w → AtOrBefore (Order S) w u → AtOrBefore (Order S) w v → AtOrBefore (Order S) w m)

-- One change to a name can't be left out of `Agree`: two sound sets, each with a change of the same name and other contents, that turn two lines around.
abbrev pub NamesMatter : Type 0
NamesMatter =
    (S : List Change) × (R : List Change) × (u : ℕ) × (v : ℕ)
    × Sound S × Sound R × Line S u × Line S v × Line R u × Line R v × Order S u v × Order R v u
