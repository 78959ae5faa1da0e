-- Admitting a change, where what it needs is here and its name is new.
-- room_for L c: c would not pass a limit of a book with the changes L. admission L c: what becomes of c. changes_after o L c: the changes after an outcome.
-- Admitted s t c r: of the shelf s, which then is t, and the change c, with the answer r. Where the store has no room for a change that would be taken, the answer says so, and nothing is altered.
-- ReadyFor s c slots: c passes each test on the shelf s, and is on it with its lines once they are given these slots.
-- Assumes nothing.
use Rattle.std.specs.Prelude.{◌≡◌, ℕ, Bool, true, ◌&&◌, List, ◌∷◌, length, Ok, Err, Result, nat_le}
use Rattle.change.specs.declared.refusal.Refusal.TheVariants.{Unrelated, Unordered, Full}
use Rattle.change.specs.Model.{Change, line_of}
use Rattle.order.specs.Table.{placed}
use Rattle.lines.specs.Lines.{numbers_of, Prepared}
use Rattle.lines.specs.Numbers.{AreFree}
use Rattle.verdict.specs.Verdict.{is_related, is_ordered}
use Rattle.store.specs.declared.no_room.NoRoom.{NoRoom}
use Rattle.store.specs.Pushed.{Pushed}
use Rattle.history.specs.declared.Outcome.{Outcome}
use Rattle.history.specs.declared.Outcome.TheVariants.{Taken, Waits, Refused}
use Rattle.history.specs.Book.{change_limit, line_limit, lines_of}
use Rattle.history.specs.Taking.{provided}
use Rattle.shelf.specs.declared.Shelf.{Shelf}
use Rattle.shelf.specs.Sane.{changes}

abbrev pub room_for : List Change → Change → Bool
room_for L c = nat_le (length (c ∷ L)) change_limit && nat_le (lines_of (c ∷ L)) line_limit

abbrev pub admission : List Change → Change → Outcome
admission L c =
    provided (is_related L c) Unrelated
    (provided (is_ordered L c) Unordered
    (provided (room_for L c) Full Taken))

abbrev pub changes_after : Outcome → List Change → Change → List Change
changes_after Taken L c = c ∷ L
changes_after Waits L c = L
changes_after (Refused r) L c = L

abbrev pub Admitted : Shelf → Shelf → Change → Result Outcome NoRoom → Type 0
Admitted s t c (Ok o) = (o ≡ admission (changes s) c) × (changes t ≡ changes_after o (changes s) c)
Admitted s t c (Err e) = (admission (changes s) c ≡ Taken) × (changes t ≡ changes s) × Pushed s.store t.store c (Err e)

pub record ReadyFor (s : Shelf) (c : Change) (slots : List ℕ) : Type 0 where
  pub related : is_related (changes s) c ≡ true
  pub ordered : is_ordered (changes s) c ≡ true
  pub room : room_for (changes s) c ≡ true
  pub many : length slots ≡ length c.adds
  pub free : AreFree (numbers_of s.lines) slots
  pub prepared : Prepared s.lines (line_of c.name 0) slots (placed (c ∷ changes s))
