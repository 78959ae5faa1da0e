-- What making a change of a request depends on, and what it comes to.
-- within_limits L needs adds kills: a change with so many needs, adds and kills passes no limit, where L are the changes of the book. Next B L name: the book B has the changes L, and the next name of its plant is `name`.
-- Comes bytes_of B r answer: making a change of the request r on the book B comes to the answer: that it is refused, or what has the bytes of the change; or memory was wanting.
-- Assumes nothing.
use Rattle.std.specs.Prelude.{◌≡◌, ℕ, ◌<◌, Bool, ◌&&◌, List, Ok, Err, Result, nat_le}
use Rattle.change.specs.declared.trouble.Trouble.{Trouble}
use Rattle.change.specs.declared.trouble.Trouble.TheVariants.{Refused, Memory}
use Rattle.change.specs.Bytes.{change_bytes}
use Rattle.change.specs.Model.{Change}
use Rattle.history.specs.Book.{Book, next_name}
use Rattle.making.specs.Request.{Request}
use Rattle.making.specs.Making.{change_for, make}
use Rattle.shelf.specs.Asking.{room_for_adds}

abbrev pub within_limits : List Change → ℕ → ℕ → ℕ → Bool
within_limits L needs adds kills = nat_le needs 32 && (nat_le adds 64 && (nat_le kills 64 && room_for_adds L adds))

pub record Next (B : Book) (L : List Change) (n : ℕ) : Type 0 where
  pub changes : B.changes ≡ L
  pub name : next_name B ≡ n
  pub plant : B.plant < 16

abbrev pub Comes : {V : Type 0} → (V → List ℕ) → Book → Request → Result V Trouble → Type 0
Comes bytes_of B r (Ok v) = (make B r ≡ Ok (change_for B r)) × (bytes_of v ≡ change_bytes (change_for B r))
Comes bytes_of B r (Err (Refused e)) = make B r ≡ Err e
Comes bytes_of B r (Err Memory) = Unit {0}
