-- What a change that was made is called.
-- MadeAs B r es: the change that was made of the request r on the book B has the plant's next name, which is one, adds as many lines as a change may, and its event comes first.
-- Assumes nothing.
use Rattle.std.specs.Prelude.{◌≡◌, ◌≤◌, true, List, ◌∷◌, length}
use Rattle.change.specs.WellFormed.{is_name}
use Rattle.history.specs.declared.Event.{Event}
use Rattle.history.specs.declared.Outcome.TheVariants.{Taken}
use Rattle.history.specs.Book.{Book, next_name}
use Rattle.history.specs.Taking.{event}
use Rattle.making.specs.Request.{Request}

pub record MadeAs (B : Book) (r : Request) (es : List Event) : Type 0 where
  pub name : is_name (next_name B) ≡ true
  pub few : length r.adds ≤ 64
  pub first : (others : List Event) × (es ≡ event (next_name B) Taken ∷ others)
