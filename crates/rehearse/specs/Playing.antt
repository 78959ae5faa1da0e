-- What is played, and what is answered.
-- Throughout: old are the seats as they were, new as they are then; before are the bytes that were answered so far, after those that are then; r says whether there was memory.
-- At P place: what holds of the desk at a place; where there is none, the line is refused. Told n m: the command m is performed for the plant n. Passed n m: whatever the plant m lacks is sent to it from the plant n.
-- Played line: the line is played.
-- Assumes nothing.
use Rattle.std.specs.Prelude.{◌≡◌, ℕ, true, false, List, [], ◌++◌, Some, None, Option, OnOk, IsErr, IsUtf8, ◌⊎◌, slice_get}
use Rattle.change.specs.declared.refusal.Refusal.TheVariants.{Malformed}
use Rattle.world.specs.Calls.{take_bytes}
use Rattle.history.specs.Book.{Book}
use Rattle.letters.specs.Names.{names_bytes}
use Rattle.outgoing.specs.NameList.{name_list}
use Rattle.plant_books.specs.Sent.{LetterFor}
use Rattle.console.specs.Meaning.{Meaning}
use Rattle.answers.specs.Lines.{refused_line}
use Rattle.desk.specs.Answering.{Ended, NoNames, TakeAnswered}
use Rattle.desk.specs.Performing.{Performed}
use Rattle.desk.specs.State.{State, state_of}
use Rattle.rehearse.specs.Lines.{Move, tell, pass, Moves}
use Rattle.rehearse.specs.declared.seats.Seat.{Seat}
use Rattle.rehearse.specs.Seats.{Altered, TookSeat, fit_both}

pub record Refused (old new : List Seat) (before after : List ℕ) (r : Ended) : Type 0 where
  pub same : new ≡ old
  pub line : OnOk r (after ≡ before ++ refused_line Malformed [])

-- the same plant sits there, and its desk is altered so
pub record Still (P : State → State → Type 0) (s t : Seat) : Type 0 where
  pub plant : t.plant ≡ s.plant
  pub desk : P (state_of s.desk) (state_of t.desk)

abbrev pub ToldAt : Meaning → Option ℕ → List Seat → List Seat → List ℕ → List ℕ → Ended → Type 0
ToldAt m None old new before after r = Refused old new before after r
ToldAt m (Some k) old new before after r = Altered (Still (λ s t. Performed m s t before after r)) k old new

abbrev pub Told : ℕ → Meaning → List Seat → List Seat → List ℕ → List ℕ → Ended → Type 0
Told n m old new before after r = (place : Option ℕ) × (mid : List Seat) × TookSeat n old mid place × ToldAt m place mid new before after r

-- the seat at a place takes the letter of a book, for the names that the book at that place has; or memory was wanting before that
abbrev pub LetterTaken : Book → List ℕ → ℕ → List Seat → List Seat → List ℕ → List ℕ → Ended → Type 0
LetterTaken B names j old new before after r =
    ((letter : List ℕ) × LetterFor B names letter × Altered (Still (λ s t. (t.request ≡ s.request) × TakeAnswered (take_bytes s.book letter) s.book t.book before after r)) j old new)
    ⊎ ((NoNames names × Refused old new before after r) ⊎ (IsErr r × (new ≡ old)))

abbrev pub PassedAt : Option ℕ → Option ℕ → List Seat → List Seat → List ℕ → List ℕ → Ended → Type 0
PassedAt (Some i) (Some j) old new before after r =
    (s : Seat) × (t : Seat) × (slice_get old i ≡ Some s) × (slice_get old j ≡ Some t)
    × LetterTaken (state_of s.desk).book (names_bytes (name_list (state_of t.desk).book.changes)) j old new before after r
PassedAt (Some i) None old new before after r = Refused old new before after r
PassedAt None o old new before after r = Refused old new before after r

abbrev pub Passed : ℕ → ℕ → List Seat → List Seat → List ℕ → List ℕ → Ended → Type 0
Passed n m old new before after r =
    ((fit_both n m old ≡ false) × Refused old new before after r)
    ⊎ ((fit_both n m old ≡ true)
    × ((from : Option ℕ) × (to : Option ℕ) × (mid : List Seat) × (seated : List Seat) × TookSeat n old mid from × TookSeat m mid seated to × PassedAt from to seated new before after r))

abbrev pub Done : Move → List Seat → List Seat → List ℕ → List ℕ → Ended → Type 0
Done (tell n m) old new before after r = Told n m old new before after r
Done (pass n m) old new before after r = Passed n m old new before after r

-- the line says a move, and that is done; or it says none, and is refused
abbrev pub Played : List ℕ → List Seat → List Seat → List ℕ → List ℕ → Ended → Type 0
Played line old new before after r =
    ((m : Move) × Moves line m × Done m old new before after r)
    ⊎ ((IsUtf8 line → (m : Move) → Moves line m → ⊥) × Refused old new before after r)
