-- What is asked of a book, and what it comes to: the events and the book after, or the refusal, where the book stays as it was.
-- Done: such an answer. wholly r: what was read, if nothing is left over. take_bytes B bytes: bytes that begin with 2 are a letter, and read whole before any of it is taken; others are one change.
-- take_back_done B n: the change n is taken back. passed A B: what A sends to B, for the names that B has, is taken by B.
-- Assumes nothing.
use Rattle.std.specs.Prelude.{ℕ, cond, List, [], ◌∷◌, Ok, Err, Result, ◌==◌}
use Rattle.change.specs.declared.refusal.Refusal.{Refusal}
use Rattle.change.specs.declared.refusal.Refusal.TheVariants.{Malformed, Needed}
use Rattle.change.specs.Reading.{Read, change_of}
use Rattle.history.specs.declared.Event.{Event}
use Rattle.history.specs.Book.{Book}
use Rattle.history.specs.Taking.{take, is_free, taken_back}
use Rattle.letters.specs.Letter.{letter_kind, letter_of}
use Rattle.sending.specs.Sending.{names_of, sent}
use Rattle.sending.specs.Receiving.{received}

abbrev pub Done : Type 0
Done = Result (List Event × Book) Refusal

abbrev pub wholly : {X : Type 0} → Read X → Result X Refusal
wholly (Ok (x, [])) = Ok x
wholly (Ok (x, b ∷ rest)) = Err Malformed
wholly (Err e) = Err Malformed

-- what comes of a value, if there is one
abbrev pub with : {X Y : Type 0} → (X → Y) → Result X Refusal → Result Y Refusal
with f (Ok x) = Ok (f x)
with f (Err e) = Err e

abbrev pub kind_of : List ℕ → ℕ
kind_of [] = 0
kind_of (b ∷ bytes) = b

abbrev pub take_bytes : Book → List ℕ → Done
take_bytes B bytes = cond (kind_of bytes == letter_kind) (with (received B) (wholly (letter_of bytes))) (with (take B) (wholly (change_of bytes)))

abbrev pub take_back_done : Book → ℕ → Done
take_back_done B n = cond (is_free B n) (Ok ([], taken_back B n)) (Err Needed)

abbrev pub passed : Book → Book → List Event × Book
passed A B = received B (sent (names_of B.changes) A.changes)
