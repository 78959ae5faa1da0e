-- Opening a book's file.
-- Opened: how many of the bytes are kept, or why the file is turned away, and the book after the records that were replayed.
-- opened B bytes: what opening the bytes comes to, from the book B: records are read and replayed in order. One that is cut short is the last, and is cut off; one that is malformed, or can't follow, turns the file away.
-- opened_from at B bytes: the same of what is left to read, where `at` bytes are behind. Each record has a byte at least, so as many turns as there are bytes suffice.
-- of_file B: the book B but for what waits, as that isn't in the file. Filed F B: the file F opens, with all its bytes kept, to what B has of it.
-- Assumes nothing.
use Rattle.std.specs.Prelude.{◌≡◌, ℕ, zero, suc, ◌+◌, List, [], length, Ok, Err, Result}
use Rattle.change.specs.declared.fault.Fault.{Fault}
use Rattle.change.specs.declared.fault.Fault.TheVariants.{CutShort, Malformed}
use Rattle.change.specs.declared.refusal.Refusal.{Refusal}
use Rattle.change.specs.declared.refusal.Refusal.TheVariants as refused
use Rattle.change.specs.Reading.{Read}
use Rattle.history.specs.Book.{Book, empty}
use Rattle.journal.specs.Record.{Record, record_bytes, record_of}
use Rattle.journal.specs.Replay.{replayed}

abbrev pub Opened : Type 0
Opened = Result ℕ Refusal × Book

-- where reading stops, with `at` bytes behind
abbrev pub stopped : ℕ → Fault → Result ℕ Refusal
stopped at CutShort = Ok at
stopped at Malformed = Err refused.Malformed

-- a record that can follow is behind, and the others are read in the book after it
abbrev pub followed : (Book → Opened) → Book → Result Book Refusal → Opened
followed others B (Ok A) = others A
followed others B (Err e) = (Err e, B)

abbrev pub read_on : (ℕ → Book → List ℕ → Opened) → ℕ → Book → Read Record → Opened
read_on others at B (Ok (r, rest)) = followed (λ A. others (at + length (record_bytes r)) A rest) B (replayed B r)
read_on others at B (Err e) = (stopped at e, B)

abbrev pub opening : ℕ → ℕ → Book → List ℕ → Opened
opening zero at B bytes = (Ok at, B)
opening (suc turns) at B bytes = read_on (opening turns) at B (record_of bytes)

abbrev pub opened_from : ℕ → Book → List ℕ → Opened
opened_from at B bytes = opening (length bytes) at B bytes

abbrev pub opened : Book → List ℕ → Opened
opened B bytes = opened_from 0 B bytes

abbrev pub of_file : Book → Book
of_file B = record { plant = B.plant; highest = B.highest; changes = B.changes; waiting = [] }

abbrev pub Filed : List ℕ → Book → Type 0
Filed F B = opened (empty B.plant) F ≡ (Ok (length F), of_file B)
