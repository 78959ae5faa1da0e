-- What is proved of sending and receiving. Each is a type; a term of that type in proofs/ is its proof, and a function of src/ names it in its contract.
-- Counted T: what counting says of the walk through T. NamedIn S has: S has a change of each of these names. NoneRefused es: no event of es says that a change was turned away.
-- held B: the changes of the book B and those that wait there. OnlyKnown es: the changes that the events es turn away are turned away as known.
-- Gathered U S B: U is a list, of one change to a name, that has the changes S, those of the book B and those that wait there, and it is within the limits of a book.
-- Assumes nothing.
use Rattle.std.specs.Prelude.{◌≡◌, ℕ, ◌+◌, ◌≤◌, true, cond, ◌⊎◌, List, [], ◌∷◌, ◌++◌, length, ◌≢◌}
use Rattle.change.specs.declared.refusal.Refusal.{Refusal}
use Rattle.change.specs.declared.refusal.Refusal.TheVariants.{Known}
use Rattle.change.specs.Membership.{In, Within, SameMembers}
use Rattle.change.specs.Model.{Change}
use Rattle.change.specs.WellFormed.{well_formed}
use Rattle.order.specs.Names.{HasName}
use Rattle.order.specs.Fits.{Sound, Closed, OneChange}
use Rattle.order.specs.Theorems.{without}
use Rattle.verdict.specs.FromNeeds.{is_among}
use Rattle.history.specs.declared.Outcome.TheVariants.{Waits, Refused}
use Rattle.history.specs.declared.Event.{Event}
use Rattle.history.specs.Book.{Book, change_limit, line_limit, lines_of}
use Rattle.history.specs.Taking.{event, verdict}
use Rattle.history.specs.Sane.{Distinct, Sane}
use Rattle.sending.specs.Sending.{walk_all, sent}
use Rattle.sending.specs.Counting.{ahead}
use Rattle.sending.specs.Relation.{Sends}
use Rattle.sending.specs.Receiving.{received, AwayAmong}

-- The letter of a sound set, as every book's changes are, is what the relation asks for: exactly the changes whose names weren't given, once each, in the order of the rule.
abbrev pub SentSends : Type 0
SentSends = (has : List ℕ) (S : List Change) → Sound S → Sends has S (sent has S)

-- There is one such letter, and it depends alone on which names were given and which changes there are.
abbrev pub OneLetter : Type 0
OneLetter =
    (has other : List ℕ) (S R : List Change) → SameMembers has other → SameMembers S R →
    (cs ds : List Change) → Sends has S cs → Sends other R ds → cs ≡ ds

-- So books with the same changes send the same letter to those who have the same.
abbrev pub SentAlike : Type 0
SentAlike = (has other : List ℕ) (S R : List Change) → SameMembers has other → SameMembers S R → Sound S → sent has S ≡ sent other R

-- The walk can be followed by counting: the next is the one with the lowest name of those with nothing ahead of them; without it the counts of those that need it fall by one; and where all have something ahead of them, the walk is over.
pub record Counted (T : List Change) : Type 0 where
  pub next :
      (c : Change) → In c T → ahead T c ≡ 0 → ((d : Change) → In d T → ahead T d ≡ 0 → c.name ≤ d.name) →
      walk_all T ≡ c ∷ walk_all (without c.name T)
  pub over : ((c : Change) → In c T → ahead T c ≢ 0) → walk_all T ≡ []
  pub falls : (c : Change) → In c T → (d : Change) → ahead T d ≡ ahead (without c.name T) d + cond (is_among c.name d.needs) 1 0

abbrev pub CountsTell : Type 0
CountsTell = (T : List Change) → Distinct T → Counted T

-- Each change of a letter needs only what the other has and what comes before it.
abbrev pub AfterNeeds : Type 0
AfterNeeds =
    (has : List ℕ) (S : List Change) → Closed S → (letter : List Change) → Sends has S letter →
    (front : List Change) (c : Change) (back : List Change) → letter ≡ front ++ c ∷ back → (n : ℕ) → In n c.needs → In n has ⊎ HasName front n

abbrev pub NamedIn : List Change → List ℕ → Type 0
NamedIn S has = (n : ℕ) → In n has → HasName S n

-- Together with what the other has a letter is closed.
abbrev pub ClosedTogether : Type 0
ClosedTogether =
    (has : List ℕ) (S H : List Change) → Closed S → Closed H → NamedIn H has →
    (letter : List Change) → Sends has S letter → Closed (letter ++ H)

-- Received by a book that has what it said, no change of the letter waits, unless one before it was turned away. Nothing is supposed of who made what.
abbrev pub NothingWaits : Type 0
NothingWaits =
    (S : List Change) → Sound S → (B : Book) → Sane B → (has : List ℕ) → NamedIn B.changes has →
    (front : List Change) (c : Change) (back : List Change) → sent has S ≡ front ++ c ∷ back →
    verdict (received B front).1 c ≡ Waits → AwayAmong B front

abbrev pub NoneRefused : List Event → Type 0
NoneRefused es = (n : ℕ) (r : Refusal) → In (event n (Refused r)) es → ⊥

-- Where no event is a refusal, each change of the letter came in.
abbrev pub AllTaken : Type 0
AllTaken =
    (S : List Change) → Sound S → (B : Book) → Sane B → (has : List ℕ) → NamedIn B.changes has →
    NoneRefused (received B (sent has S)).0 → (c : Change) → In c (sent has S) → In c (received B (sent has S)).1.changes

-- the changes of a book, and those that wait there
abbrev pub held : Book → List Change
held B = B.changes ++ B.waiting

abbrev pub OnlyKnown : List Event → Type 0
OnlyKnown es = (n : ℕ) (r : Refusal) → In (event n (Refused r)) es → r ≡ Known

-- Where changes of one name are the same change, the same holds if the only refusals are of changes that were there: one that had waited comes in by itself as soon as what it needs is there, and is then known when its turn comes.
abbrev pub AllThere : Type 0
AllThere =
    (S : List Change) → Sound S → (B : Book) → Sane B → OneChange S (held B) → (has : List ℕ) → NamedIn B.changes has →
    OnlyKnown (received B (sent has S)).0 → (c : Change) → In c (sent has S) → In c (received B (sent has S)).1.changes

pub record Gathered (U S : List Change) (B : Book) : Type 0 where
  pub one : OneChange U U
  pub sender : Within S U
  pub receiver : Within B.changes U
  pub waiting : Within B.waiting U
  pub few_changes : length U ≤ change_limit
  pub few_lines : lines_of U ≤ line_limit

-- Where there is room for all, and changes of one name are the same change, the book then has all that both had; and whatever else it has waited there before.
abbrev pub GetsTheUnion : Type 0
GetsTheUnion =
    (S : List Change) → Sound S → (B : Book) → Sane B → (has : List ℕ) → NamedIn B.changes has → (U : List Change) → Gathered U S B → (d : Change) →
    ((In d S ⊎ In d B.changes) → In d (received B (sent has S)).1.changes)
    × (In d (received B (sent has S)).1.changes → (In d S ⊎ In d B.changes) ⊎ In d B.waiting)

-- A book stays sane whatever letter it gets, and keeps what it had.
abbrev pub ReceivedSane : Type 0
ReceivedSane =
    (B : Book) → Sane B → (cs : List Change) → ((c : Change) → In c cs → well_formed c ≡ true) →
    Sane (received B cs).1 × Within B.changes (received B cs).1.changes

-- A change of a letter that is turned away leaves the book as if it hadn't been in the letter.
abbrev pub RefusedLeavesNoTrace : Type 0
RefusedLeavesNoTrace =
    (B : Book) (front : List Change) (c : Change) (back : List Change) (r : Refusal) → verdict (received B front).1 c ≡ Refused r →
    (received B (front ++ c ∷ back)).1 ≡ (received B (front ++ back)).1
