-- What is proved of making a change. Each is a type; a term of that type in proofs/ is its proof, and a function of src/ names it in its contract.
-- A plant is a number below 16, as names have room for no more.
-- Assumes nothing.
use Rattle.std.specs.Prelude.{◌≡◌, ℕ, ◌<◌, ◌≤◌, true, false, ◌↔◌, List, Ok, Err, ◌≢◌}
use Rattle.change.specs.declared.refusal.Refusal.{Refusal}
use Rattle.change.specs.declared.refusal.Refusal.TheVariants.{Unrelated, Missing}
use Rattle.change.specs.Membership.{In, SameMembers}
use Rattle.change.specs.Model.{Change, bringer}
use Rattle.change.specs.Refusals.{number_of}
use Rattle.change.specs.WellFormed.{well_formed}
use Rattle.order.specs.Fits.{Fits}
use Rattle.history.specs.declared.Outcome.TheVariants.{Taken}
use Rattle.history.specs.declared.Event.{Event}
use Rattle.history.specs.Book.{Book, next_name}
use Rattle.history.specs.Taking.{event, verdict}
use Rattle.history.specs.Sane.{Sane}
use Rattle.history.specs.Theorems.{New}
use Rattle.making.specs.Request.{Request, named_lines}
use Rattle.making.specs.Making.{change_for, holds, make, made}
use Rattle.making.specs.Known.{AllKnown, OnSheet}

-- What is made has the next name, and does what was asked.
abbrev pub MadeAsAsked : Type 0
MadeAsAsked =
    (B : Book) (r : Request) (c : Change) → make B r ≡ Ok c →
    (c.name ≡ next_name B) × (c.sheet ≡ r.sheet) × (c.adds ≡ r.adds) × SameMembers c.kills r.kills

-- It needs the changes that the lines named come from, and no others: the edges come from none, and its own lines from itself.
abbrev pub NeedsExactly : Type 0
NeedsExactly =
    (B : Book) (r : Request) (n : ℕ) →
    In n (change_for B r).needs ↔ ((u : ℕ) × In u (named_lines r) × (2 ≤ u) × (bringer u ≢ next_name B) × (bringer u ≡ n))

-- What is made fits the book, and the book takes it.
abbrev pub MadeFits : Type 0
MadeFits = (B : Book) → Sane B → B.plant < 16 → (r : Request) (c : Change) → make B r ≡ Ok c → Fits B.changes c × (verdict B c ≡ Taken)

-- No change in the book or waiting has its name.
abbrev pub MadeNameIsNew : Type 0
MadeNameIsNew = (B : Book) → Sane B → B.plant < 16 → (r : Request) (c : Change) → make B r ≡ Ok c → New B c

-- A book in which a change was made has it, says that it was taken, and is sane.
abbrev pub MadeComesIn : Type 0
MadeComesIn =
    (B : Book) → Sane B → B.plant < 16 → (r : Request) (es : List Event) (A : Book) → made B r ≡ Ok (es, A) →
    In (change_for B r) A.changes × In (event (next_name B) Taken) es × Sane A

-- A request is refused exactly by the lowest number of the refusals that hold.
abbrev pub LowestWins : Type 0
LowestWins = (B : Book) (r : Request) (e : Refusal) → (make B r ≡ Err e) ↔ ((holds B r e ≡ true) × ((f : Refusal) → holds B r f ≡ true → number_of e ≤ number_of f))

-- The change is made exactly if no refusal holds.
abbrev pub MadeUnlessRefused : Type 0
MadeUnlessRefused = (B : Book) (r : Request) → (make B r ≡ Ok (change_for B r)) ↔ ((e : Refusal) → holds B r e ≡ false)

-- Nothing is refused without need: a change is made exactly if it is well formed and the book takes it.
abbrev pub MadeIfTaken : Type 0
MadeIfTaken =
    (B : Book) → Sane B → B.plant < 16 → (r : Request) →
    (make B r ≡ Ok (change_for B r)) ↔ ((well_formed (change_for B r) ≡ true) × (verdict B (change_for B r) ≡ Taken))

-- Missing holds exactly if not all lines named are known, and Unrelated exactly if not all are of the sheet, or an edge is struck out.
abbrev pub MissingIsUnknown : Type 0
MissingIsUnknown = (B : Book) → Sane B → (r : Request) → (holds B r Missing ≡ true) ↔ (AllKnown B r → ⊥)

abbrev pub UnrelatedIsOffSheet : Type 0
UnrelatedIsOffSheet = (B : Book) → Sane B → (r : Request) → (holds B r Unrelated ≡ true) ↔ (OnSheet B r → ⊥)
