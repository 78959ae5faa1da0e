-- The names of the changes that a book has, as one message: by them another book tells what to send.
-- names_bytes ns: 3, how many names (2 bytes), these (4 bytes each). are_names ns: at most 1,024 names, each higher than the one before it. names_of: what reading says of bytes as such names.
-- Assumes nothing.
use Rattle.std.specs.Prelude.{ℕ, suc, Bool, ◌&&◌, List, length, nat_le}
use Rattle.change.specs.Bytes.{number_bytes}
use Rattle.change.specs.Reading.{Read, number_within}
use Rattle.change.specs.WellFormed.{rising, lowest_name, highest_name}
use Rattle.letters.specs.Message.{message_bytes, message_of}

abbrev pub names_kind : ℕ
names_kind = 3

abbrev pub names_limit : ℕ
names_limit = 1024

abbrev pub names_bytes : List ℕ → List ℕ
names_bytes ns = message_bytes names_kind number_bytes ns

abbrev pub are_names : List ℕ → Bool
are_names ns = nat_le (length ns) names_limit && rising lowest_name highest_name ns

abbrev pub names_of : List ℕ → Read (List ℕ)
names_of bytes = message_of names_kind names_limit (number_within highest_name) suc lowest_name bytes
