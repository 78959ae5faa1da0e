-- Several books, and all that can happen among them.
-- World: the books, by their places. Action: a change is made on the book at a place; it takes bytes, whatever they are; it takes a change back; or what one book sends is passed to another.
-- acted W a: what the action a comes to, and the world after. played W actions: the world after all the actions. begun plants: books without changes, one for each of these plants.
-- Arises W: the world W comes about from books without changes, of whatever plants, by whatever actions.
-- Assumes nothing.
use Rattle.std.specs.Prelude.{◌≡◌, ℕ, ◌<◌, List, [], ◌∷◌, map, Some, None, Ok, Err, Option, Result, slice_set}
use Rattle.std.specs.List.{slice_get}
use Rattle.change.specs.declared.refusal.Refusal.{Refusal}
use Rattle.change.specs.declared.refusal.Refusal.TheVariants.{Malformed}
use Rattle.change.specs.Membership.{In}
use Rattle.history.specs.declared.Event.{Event}
use Rattle.history.specs.Book.{Book, empty}
use Rattle.making.specs.Request.{Request}
use Rattle.making.specs.Making.{made}
use Rattle.world.specs.Calls.{Done, take_bytes, take_back_done, passed}

abbrev pub World : Type 0
World = List Book

pub data Action : Type 0 where
  makes : ℕ → Request → Action
  takes : ℕ → List ℕ → Action
  takes_back : ℕ → ℕ → Action
  passes : ℕ → ℕ → Action

-- the place of the book that may be altered
abbrev pub place_of : Action → ℕ
place_of (makes i r) = i
place_of (takes i bytes) = i
place_of (takes_back i n) = i
place_of (passes i j) = j

-- what the first book, if there is one, sends to the second
abbrev pub passed_from : Option Book → Book → Done
passed_from None B = Err Malformed
passed_from (Some A) B = Ok (passed A B)

abbrev pub done : World → Action → Book → Done
done W (makes i r) B = made B r
done W (takes i bytes) B = take_bytes B bytes
done W (takes_back i n) B = take_back_done B n
done W (passes i j) B = passed_from (slice_get W i) B

abbrev pub Answer : Type 0
Answer = Result (List Event) Refusal

abbrev pub concluded : World → ℕ → Done → Answer × World
concluded W i (Ok (es, B)) = (Ok es, slice_set W i B)
concluded W i (Err e) = (Err e, W)

-- an action on a book that isn't there is refused
abbrev pub acted_on : World → Action → Option Book → Answer × World
acted_on W a None = (Err Malformed, W)
acted_on W a (Some B) = concluded W (place_of a) (done W a B)

abbrev pub acted : World → Action → Answer × World
acted W a = acted_on W a (slice_get W (place_of a))

abbrev pub played : World → List Action → World
played W [] = W
played W (a ∷ actions) = played (acted W a).1 actions

abbrev pub begun : List ℕ → World
begun plants = map empty plants

-- plants are numbered 0 to 15
abbrev pub Arises : World → Type 0
Arises W = (plants : List ℕ) × ((p : ℕ) → In p plants → p < 16) × (actions : List Action) × (W ≡ played (begun plants) actions)
