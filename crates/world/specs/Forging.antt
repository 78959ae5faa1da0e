-- Worlds in which nothing is forged: what is taken as bytes was made in the world before.
-- made_by W a: the change that the action a makes in W, if it makes one. Genuine M a: bytes that the action takes bring changes of M only.
-- Honest W M actions: each of the actions is genuine, where M are the changes made before, and those made meanwhile are counted.
-- Assumes nothing.
use Rattle.std.specs.Prelude.{◌≡◌, true, List, [], ◌∷◌, ◌++◌, Some, None, Ok, Err, Option, Result}
use Rattle.std.specs.List.{slice_get}
use Rattle.change.specs.declared.refusal.Refusal.{Refusal}
use Rattle.change.specs.Membership.{In, Within}
use Rattle.change.specs.Model.{Change}
use Rattle.change.specs.WellFormed.{well_formed}
use Rattle.change.specs.Bytes.{change_bytes}
use Rattle.history.specs.Book.{Book}
use Rattle.letters.specs.Letter.{letter_bytes, is_letter}
use Rattle.making.specs.Request.{Request}
use Rattle.making.specs.Making.{make}
use Rattle.world.specs.World.{World, Action, makes, takes, takes_back, passes, acted}

abbrev pub if_made : Result Change Refusal → List Change
if_made (Ok c) = c ∷ []
if_made (Err e) = []

abbrev pub made_on : Option Book → Request → List Change
made_on None r = []
made_on (Some B) r = if_made (make B r)

abbrev pub made_by : World → Action → List Change
made_by W (makes i r) = made_on (slice_get W i) r
made_by W (takes i bytes) = []
made_by W (takes_back i n) = []
made_by W (passes i j) = []

abbrev pub Genuine : List Change → Action → Type 0
Genuine M (makes i r) = Unit {0}
Genuine M (takes i bytes) =
    ((c : Change) → well_formed c ≡ true → bytes ≡ change_bytes c → In c M) × ((cs : List Change) → is_letter cs ≡ true → bytes ≡ letter_bytes cs → Within cs M)
Genuine M (takes_back i n) = Unit {0}
Genuine M (passes i j) = Unit {0}

abbrev pub Honest : World → List Change → List Action → Type 0
Honest W M [] = Unit {0}
Honest W M (a ∷ actions) = Genuine M a × Honest (acted W a).1 (made_by W a ++ M) actions
