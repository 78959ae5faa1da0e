-- What sending for names that come as bytes answers.
-- SentFor B names was now r: of the book B, and the bytes of the names that the other has, with the slice as it was and as it is, and the answer r: the bytes are no names', the slice has no room for the letter or there is no memory, and nothing is altered; or the letter is what the book sends for them.
-- Assumes nothing.
use Rattle.std.specs.Prelude.{◌≡◌, ℕ, ◌≤◌, true, List, length, take, drop, Ok, Err, Result, ◌≢◌}
use Rattle.change.specs.declared.refusal.Refusal.TheVariants.{Malformed}
use Rattle.letters.specs.Letter.{letter_bytes}
use Rattle.letters.specs.Names.{names_bytes, are_names}
use Rattle.sending.specs.Sending.{sent}
use Rattle.history.specs.Book.{Book}
use Rattle.plant_books.specs.declared.send_trouble.SendFault.{SendFault}
use Rattle.plant_books.specs.declared.send_trouble.SendFault.TheVariants.{Refused, TooShort, Memory}

-- the letter for the names that these bytes are
abbrev pub LetterFor : Book → List ℕ → List ℕ → Type 0
LetterFor B names letter = (ns : List ℕ) × (are_names ns ≡ true) × (names ≡ names_bytes ns) × (letter ≡ letter_bytes (sent ns B.changes))

abbrev pub SentFor : Book → List ℕ → List ℕ → List ℕ → Result ℕ SendFault → Type 0
SentFor B names was now (Ok n) = LetterFor B names (take n now) × (n ≤ length was) × (drop n now ≡ drop n was)
SentFor B names was now (Err (Refused e)) = (e ≡ Malformed) × ((ns : List ℕ) → are_names ns ≡ true → names ≢ names_bytes ns) × (now ≡ was)
SentFor B names was now (Err TooShort) = now ≡ was
SentFor B names was now (Err Memory) = now ≡ was
