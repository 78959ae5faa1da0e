-- A letter (elsewhere: a bundle): changes that one book sends to another, as one message.
-- letter_bytes cs: 2, how many changes (2 bytes), these one behind the other. is_letter cs: at most 1,024 changes, each well-formed. letter_of: what reading says of bytes as a letter.
-- Assumes nothing.
use Rattle.std.specs.Prelude.{ℕ, Bool, ◌&&◌, List, length, nat_le}
use Rattle.std.specs.List.{list_all}
use Rattle.change.specs.Bytes.{change_bytes}
use Rattle.change.specs.Model.{Change}
use Rattle.change.specs.Reading.{Read, change_of}
use Rattle.change.specs.WellFormed.{well_formed}
use Rattle.letters.specs.Message.{message_bytes, message_of}

abbrev pub letter_kind : ℕ
letter_kind = 2

abbrev pub letter_limit : ℕ
letter_limit = 1024

abbrev pub letter_bytes : List Change → List ℕ
letter_bytes cs = message_bytes letter_kind change_bytes cs

abbrev pub is_letter : List Change → Bool
is_letter cs = nat_le (length cs) letter_limit && list_all well_formed cs

abbrev pub letter_of : List ℕ → Read (List Change)
letter_of bytes = message_of letter_kind letter_limit (λ _. change_of) (λ _. 0) 0 bytes
