-- What reading a letter answers: the bytes of each of its changes, where they lie, so that nothing is copied.
-- change_in b: the change that its bytes read as.
-- LetterRead: what reading bytes as one letter, and nothing behind it, answers: its changes exactly where they are a letter's bytes. ChangesRead: what reading the changes in it answers, where `whole` is what reading says of them and `rest` is left behind.
-- Assumes nothing.
use Rattle.std.specs.Prelude.{◌≡◌, ℕ, true, List, map, Ok, Err, Result, ◌≢◌}
use Rattle.change.specs.declared.fault.Fault.{Fault}
use Rattle.change.specs.declared.refusal.Refusal.TheVariants.{Malformed}
use Rattle.change.specs.declared.trouble.Trouble.{Trouble}
use Rattle.change.specs.declared.trouble.Trouble.TheVariants.{Refused, Memory}
use Rattle.change.specs.Model.{Change}
use Rattle.change.specs.Reading.{Read}
use Rattle.letters.specs.ChangeRead.{change_read}
use Rattle.letters.specs.declared.change_bytes.ChangeBytes.{ChangeBytes}
use Rattle.letters.specs.Letter.{letter_bytes, is_letter}

abbrev pub change_in : ChangeBytes → Change
change_in b = change_read b.bytes.now

abbrev pub LetterRead : {V : Type 0} → (V → List ChangeBytes) → List ℕ → Result V Trouble → Type 0
LetterRead parts_of bytes (Ok v) = (is_letter (map change_in (parts_of v)) ≡ true) × (bytes ≡ letter_bytes (map change_in (parts_of v)))
LetterRead parts_of bytes (Err (Refused e)) = (e ≡ Malformed) × ((cs : List Change) → is_letter cs ≡ true → bytes ≢ letter_bytes cs)
LetterRead parts_of bytes (Err Memory) = Unit {0}

abbrev pub ChangesRead : {V : Type 0} → (V → List ChangeBytes) → Read (List Change) → List ℕ → Result V Trouble → Type 0
ChangesRead parts_of whole rest (Ok v) = whole ≡ Ok (map change_in (parts_of v), rest)
ChangesRead parts_of whole rest (Err (Refused e)) = (e ≡ Malformed) × ((f : Fault) × (whole ≡ Err f))
ChangesRead parts_of whole rest (Err Memory) = Unit {0}
