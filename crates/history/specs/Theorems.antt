-- What is proved of a book's history. Each is a type; a term of that type in proofs/ is its proof, and a function of src/ names it in its contract.
-- New B c: no change of c's name is in the book B, or waits. Room B c: c would pass no limit. Ready B c: all that c needs is in B. TurnedAway r: a change that waited can be refused by r.
-- Turned es d: an event of es says that d was turned away.
-- Assumes nothing.
use Rattle.std.specs.Prelude.{◌≡◌, ℕ, ◌+◌, ◌<◌, ◌≤◌, true, ◌⊎◌, ◌↔◌, List, [], ◌∷◌, length, Some, ◌≢◌}
use Rattle.change.specs.declared.refusal.Refusal.{Refusal}
use Rattle.change.specs.declared.refusal.Refusal.TheVariants.{Unrelated, Unordered, Full}
use Rattle.change.specs.Membership.{In, SameMembers}
use Rattle.change.specs.Model.{Change}
use Rattle.change.specs.WellFormed.{well_formed}
use Rattle.order.specs.Names.{HasName}
use Rattle.order.specs.Order.{Order, Line}
use Rattle.order.specs.Fits.{Fits, Listed}
use Rattle.order.specs.Theorems.{NoneNeeds}
use Rattle.blocks.specs.Sheet.{shown}
use Rattle.history.specs.declared.Outcome.TheVariants.{Taken, Waits, Refused}
use Rattle.history.specs.declared.Event.{Event}
use Rattle.history.specs.Book.{Book, empty, change_limit, line_limit, wait_limit, lines_of, next_name}
use Rattle.history.specs.Taking.{event, verdict, lowest_ready, take, is_free, take_back}
use Rattle.history.specs.Sane.{Distinct, Lacks, Sane}
use Rattle.history.specs.Later.{Later}

-- A book is sane from the start, and taking and taking back keep it so.
abbrev pub SaneEmpty : Type 0
SaneEmpty = (plant : ℕ) → Sane (empty plant)

abbrev pub SaneTake : Type 0
SaneTake = (B : Book) → Sane B → (c : Change) → well_formed c ≡ true → Sane (take B c).1

abbrev pub SaneTakeBack : Type 0
SaneTakeBack = (B : Book) → Sane B → (n : ℕ) → Sane (take_back B n)

abbrev pub SaneLater : Type 0
SaneLater = (A B : Book) → Sane A → Later A B → Sane B

abbrev pub New : Book → Change → Type 0
New B c = (HasName B.changes c.name → ⊥) × (HasName B.waiting c.name → ⊥)

abbrev pub Room : Book → Change → Type 0
Room B c = (length B.changes < change_limit) × (lines_of B.changes + length c.adds ≤ line_limit)

abbrev pub Ready : Book → Change → Type 0
Ready B c = (n : ℕ) → In n c.needs → HasName B.changes n

-- A change is taken exactly if it fits what the book has, none of its name waits, and there is room.
abbrev pub TakenIsFits : Type 0
TakenIsFits =
    (B : Book) → Sane B → (c : Change) → well_formed c ≡ true →
    (verdict B c ≡ Taken) ↔ (Fits B.changes c × (HasName B.waiting c.name → ⊥) × Room B c)

-- It waits exactly if it is new, lacks a need, and fewer wait than may.
abbrev pub WaitsIsLacks : Type 0
WaitsIsLacks = (B : Book) (c : Change) → (verdict B c ≡ Waits) ↔ (New B c × Lacks B.changes c × (length B.waiting < wait_limit))

-- What is refused alters nothing, and nothing else happens.
abbrev pub RefusedAltersNothing : Type 0
RefusedAltersNothing = (B : Book) (c : Change) (r : Refusal) → verdict B c ≡ Refused r → take B c ≡ (event c.name (Refused r) ∷ [], B)

-- The next to be tried is the one with the lowest name of those that wait and are ready.
abbrev pub LowestNext : Type 0
LowestNext =
    (B : Book) → Distinct B.waiting → (c : Change) →
    (lowest_ready B ≡ Some c) ↔ (In c B.waiting × Ready B c × ((d : Change) → In d B.waiting → Ready B d → c.name ≤ d.name))

-- The changes of the book after are those of the book before, and those that the events call taken.
abbrev pub CameIn : Type 0
CameIn =
    (B : Book) → Sane B → (c : Change) → well_formed c ≡ true → (d : Change) →
    In d (take B c).1.changes ↔ (In d B.changes ⊎ (In d (c ∷ B.waiting) × In (event d.name Taken) (take B c).0))

abbrev pub TurnedAway : Refusal → Type 0
TurnedAway r = (r ≡ Unrelated) ⊎ ((r ≡ Unordered) ⊎ (r ≡ Full))

abbrev pub Turned : List Event → Change → Type 0
Turned es d = (r : Refusal) × TurnedAway r × In (event d.name (Refused r)) es

-- The first event is that of the change itself, and each other is of a change that waited.
abbrev pub EventsOfWaiting : Type 0
EventsOfWaiting =
    (B : Book) → Sane B → (c : Change) → well_formed c ≡ true →
    (es : List Event) × ((take B c).0 ≡ event c.name (verdict B c) ∷ es) × ((e : Event) → In e es → HasName B.waiting e.name.0)

-- A change that waited still does, or came in, or was turned away.
abbrev pub WaitingEnds : Type 0
WaitingEnds =
    (B : Book) → Sane B → (c : Change) → well_formed c ≡ true → (d : Change) → In d B.waiting →
    In d (take B c).1.waiting ⊎ (In d (take B c).1.changes ⊎ Turned (take B c).0 d)

-- Taking a change turns no two lines around, and neither does taking one back among the lines that remain.
abbrev pub NothingTurnsAround : Type 0
NothingTurnsAround =
    (B : Book) → Sane B → (c : Change) → well_formed c ≡ true → (u v : ℕ) → Line B.changes u → Line B.changes v →
    Order B.changes u v ↔ Order (take B c).1.changes u v

abbrev pub RestStands : Type 0
RestStands =
    (B : Book) → Sane B → (n : ℕ) → (u v : ℕ) → Line (take_back B n).changes u → Line (take_back B n).changes v →
    Order (take_back B n).changes u v ↔ Order B.changes u v

-- A change is free exactly if it is in the book and none there needs it.
abbrev pub FreeIsUnneeded : Type 0
FreeIsUnneeded = (B : Book) (n : ℕ) → (is_free B n ≡ true) ↔ (HasName B.changes n × NoneNeeds n B.changes)

-- Where a change was taken back, each sheet is shown as if it had never come: as any history of the other changes shows it.
abbrev pub AsIfNever : Type 0
AsIfNever =
    (B : Book) → Sane B → (n : ℕ) → is_free B n ≡ true →
    (M : List Change) → Listed M → ((d : Change) → In d M ↔ (In d B.changes × (d.name ≢ n))) →
    (sheet : ℕ) → shown sheet (take_back B n).changes ≡ shown sheet M

-- Books with the same changes show the same bytes, whatever came and went, and whatever waits.
abbrev pub SameBytes : Type 0
SameBytes = (A B : Book) → Sane A → Sane B → SameMembers A.changes B.changes → (sheet : ℕ) → shown sheet A.changes ≡ shown sheet B.changes

-- The plant's next name is that of no change in the book or waiting.
abbrev pub NextIsNew : Type 0
NextIsNew = (B : Book) → Sane B → B.plant < 16 → (HasName B.changes (next_name B) → ⊥) × (HasName B.waiting (next_name B) → ⊥)

-- The name of a change that was ever in the book is not given again, though the change was taken back.
abbrev pub NameGivenOnce : Type 0
NameGivenOnce = (A B : Book) → Sane A → A.plant < 16 → Later A B → (d : Change) → In d A.changes → d.name ≢ next_name B
