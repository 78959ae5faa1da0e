-- What is proved of reading and writing a change.
-- Assumes nothing.
use Rattle.std.specs.Prelude.{◌≡◌, ℕ, ◌<◌, true, List, ◌++◌, length, take, Ok, Err}
use Rattle.change.specs.declared.fault.Fault.TheVariants.{CutShort, Malformed}
use Rattle.change.specs.Model.{Change}
use Rattle.change.specs.WellFormed.{well_formed}
use Rattle.change.specs.Bytes.{change_bytes}
use Rattle.change.specs.Reading.{change_of}

-- Reading answers a change and a rest exactly where the bytes are that change's, and then the rest.
abbrev pub ReadsExactly : Type 0
ReadsExactly =
    (bytes : List ℕ) (c : Change) (rest : List ℕ) →
    (change_of bytes ≡ Ok (c, rest) → (well_formed c ≡ true) × (bytes ≡ change_bytes c ++ rest))
    × (well_formed c ≡ true → bytes ≡ change_bytes c ++ rest → change_of bytes ≡ Ok (c, rest))

-- One change, one string of bytes.
abbrev pub OneString : Type 0
OneString = (c d : Change) → well_formed c ≡ true → well_formed d ≡ true → change_bytes c ≡ change_bytes d → c ≡ d

-- Every front of a change's bytes, the whole of them aside, is cut short.
abbrev pub FrontIsCutShort : Type 0
FrontIsCutShort = (c : Change) → well_formed c ≡ true → (k : ℕ) → k < length (change_bytes c) → change_of (take k (change_bytes c)) ≡ Err CutShort

-- What is malformed stays so, whatever follows.
abbrev pub MalformedForGood : Type 0
MalformedForGood = (bytes more : List ℕ) → change_of bytes ≡ Err Malformed → change_of (bytes ++ more) ≡ Err Malformed
