-- The records of a book's file (elsewhere: a log, a journal), and their bytes.
-- Record: a change came in, or the change of a name was taken back (went). record_bytes r: a change's own bytes, or 4 and the name. is_record r: r is well formed.
-- record_of: what reading says of bytes as a record. records_bytes rs: the bytes of the records rs, one behind the other.
-- Assumes nothing.
use Rattle.std.specs.Prelude.{ℕ, Bool, cond, List, ◌∷◌, Ok, nat_eq}
use Rattle.std.specs.List.{flat_map}
use Rattle.change.specs.Bytes.{number_bytes, change_bytes}
use Rattle.change.specs.Cursor.{is_next}
use Rattle.change.specs.Model.{Change}
use Rattle.change.specs.Reading.{Read, next, only, byte_of, number_within, change_of}
use Rattle.change.specs.WellFormed.{is_name, well_formed, lowest_name, highest_name}

pub data Record : Type 0 where
  came : Change → Record
  went : ℕ → Record

abbrev pub went_kind : ℕ
went_kind = 4

abbrev pub went_bytes : ℕ → List ℕ
went_bytes n = went_kind ∷ number_bytes n

abbrev pub record_bytes : Record → List ℕ
record_bytes (came c) = change_bytes c
record_bytes (went n) = went_bytes n

abbrev pub is_record : Record → Bool
is_record (came c) = well_formed c
is_record (went n) = is_name n

abbrev pub went_of : List ℕ → Read ℕ
went_of bytes = next (only (nat_eq went_kind) (byte_of bytes)) (λ _ rest. number_within highest_name lowest_name rest)

abbrev pub record_of : List ℕ → Read Record
record_of bytes =
    cond (is_next went_kind bytes) (next (went_of bytes) (λ n rest. Ok (went n, rest))) (next (change_of bytes) (λ c rest. Ok (came c, rest)))

abbrev pub records_bytes : List Record → List ℕ
records_bytes rs = flat_map record_bytes rs
