-- What is proved of several books. Each is a type; a term of that type in proofs/ is its proof, and a function of src/ names it in its contract.
-- EachWay i j A B es fs A' B': in some world that comes about, what the book A at place i sends was passed to the book B at j, with the events es, and then what that sends to the first, with the events fs; then they are A' and B'.
-- StillWaits A A' B': what waited in A still waits in A', unless B' has it. Alike A B: the two books hold the same changes, and show the same bytes on every sheet. Different ns: no two of ns are the same.
-- Assumes nothing.
use Rattle.std.specs.Prelude.{◌≡◌, ℕ, ◌<◌, true, ◌⊎◌, List, [], ◌∷◌, Ok, Err, ◌≢◌}
use Rattle.change.specs.declared.refusal.Refusal.TheVariants.{Malformed}
use Rattle.change.specs.Membership.{In, SameMembers}
use Rattle.change.specs.Model.{Change}
use Rattle.change.specs.WellFormed.{well_formed}
use Rattle.change.specs.Bytes.{change_bytes}
use Rattle.order.specs.Fits.{OneChange}
use Rattle.blocks.specs.Sheet.{shown}
use Rattle.history.specs.declared.Event.{Event}
use Rattle.history.specs.Book.{Book}
use Rattle.history.specs.Taking.{take}
use Rattle.letters.specs.Letter.{letter_bytes, is_letter}
use Rattle.sending.specs.Sending.{names_of, sent}
use Rattle.sending.specs.Receiving.{received}
use Rattle.sending.specs.Theorems.{NoneRefused, held, OnlyKnown}
use Rattle.world.specs.Calls.{take_bytes}
use Rattle.world.specs.World.{World, Action, takes, passes, acted, played, begun, Arises}
use Rattle.world.specs.Whole.{BookAt, Whole}
use Rattle.world.specs.Forging.{Honest}

-- The theorem of the whole: over every list of makings, takings of any bytes, takings back and letters, in any number of books, from empty ones.
abbrev pub WholeHolds : Type 0
WholeHolds = (W : World) → Arises W → Whole W

-- What taking bytes comes to: the change, or the changes of the letter one after the other, whose bytes they are; and if they are neither's, they are refused.
abbrev pub TakesWhatIsMeant : Type 0
TakesWhatIsMeant =
    (B : Book) (bytes : List ℕ) →
    ((c : Change) → well_formed c ≡ true → bytes ≡ change_bytes c → take_bytes B bytes ≡ Ok (take B c))
    × ((cs : List Change) → is_letter cs ≡ true → bytes ≡ letter_bytes cs → take_bytes B bytes ≡ Ok (received B cs))
    × (((c : Change) → well_formed c ≡ true → bytes ≢ change_bytes c) → ((cs : List Change) → is_letter cs ≡ true → bytes ≢ letter_bytes cs) →
    take_bytes B bytes ≡ Err Malformed)

-- To pass what one book sends to another is to have the other take the letter's bytes.
abbrev pub PassIsTaking : Type 0
PassIsTaking =
    (W : World) → Arises W → (i j : ℕ) (A B : Book) → BookAt W i A → BookAt W j B →
    acted W (passes i j) ≡ acted W (takes j (letter_bytes (sent (names_of B.changes) A.changes)))

pub record EachWay (i j : ℕ) (A B : Book) (es fs : List Event) (A' B' : Book) : Type 0 where
  pub world : World
  pub arises : Arises world
  pub first : BookAt world i A
  pub second : BookAt world j B
  pub between : World
  pub there : acted world (passes i j) ≡ (Ok es, between)
  pub last : World
  pub back : acted between (passes j i) ≡ (Ok fs, last)
  pub first_after : BookAt last i A'
  pub second_after : BookAt last j B'

-- what waited in the first book still waits there, unless the second has it
abbrev pub StillWaits : Book → Book → Book → Type 0
StillWaits A A' B' = (c : Change) → In c A.waiting → In c A'.waiting ⊎ In c B'.changes

abbrev pub Alike : Book → Book → Type 0
Alike A B = SameMembers A.changes B.changes × ((sheet : ℕ) → shown sheet A.changes ≡ shown sheet B.changes)

-- After a pass each way, where nothing was turned away, both hold the same changes, and so show the same bytes.
-- It asks that changes of one name were the same change in both; and that what waited in the first still waits, since what came in there only with the second pass hasn't been sent to the other.
abbrev pub PassedBoth : Type 0
PassedBoth =
    (i j : ℕ) (A B : Book) (es fs : List Event) (A' B' : Book) → EachWay i j A B es fs A' B' →
    OneChange A.changes B.changes → NoneRefused es → NoneRefused fs → StillWaits A A' B' → Alike A' B'

-- The same holds if nothing was turned away but as known, where changes of one name are the same change in both, those that wait included.
abbrev pub PassedBothKnown : Type 0
PassedBothKnown =
    (i j : ℕ) (A B : Book) (es fs : List Event) (A' B' : Book) → EachWay i j A B es fs A' B' →
    OneChange (held A) (held B) → OnlyKnown es → OnlyKnown fs → StillWaits A A' B' → Alike A' B'

-- That what waited still waits can't be left out: two books of which the second lacks, after a pass each way in which nothing was refused, what had waited in the first.
abbrev pub WaitingMatters : Type 0
WaitingMatters =
    (A : Book) × (B : Book) × (es : List Event) × (fs : List Event) × (A' : Book) × (B' : Book)
    × EachWay 0 1 A B es fs A' B' × OneChange (held A) (held B) × NoneRefused es × NoneRefused fs × (SameMembers A'.changes B'.changes → ⊥)

-- no two of the numbers are the same
abbrev pub Different : List ℕ → Type 0
Different [] = Unit {0}
Different (n ∷ ns) = (In n ns → ⊥) × Different ns

-- Where each plant has one book, and nothing is forged, changes of one name are the same change in all books, those that wait included.
abbrev pub NothingForged : Type 0
NothingForged =
    (plants : List ℕ) → ((p : ℕ) → In p plants → p < 16) → Different plants → (actions : List Action) → Honest (begun plants) [] actions →
    (A B : Book) → In A (played (begun plants) actions) → In B (played (begun plants) actions) → OneChange (held A) (held B)
