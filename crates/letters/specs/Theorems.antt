-- What is proved of reading and writing letters, and the names that a book has.
-- ReadsExactly p w test: p answers a value and a rest exactly where the value passes the test and the bytes are those that w writes of it, and then the rest. OneString w test: no two such values are written alike.
-- FrontIsCutShort p w test: every front of such a value's bytes, the whole of them aside, is cut short. MalformedForGood p: what is malformed stays so, whatever follows.
-- Assumes nothing.
use Rattle.std.specs.Prelude.{◌≡◌, ℕ, ◌<◌, Bool, true, List, ◌++◌, length, take, Ok, Err}
use Rattle.change.specs.declared.fault.Fault.TheVariants.{CutShort, Malformed}
use Rattle.change.specs.Reading.{Read}
use Rattle.letters.specs.Letter.{letter_bytes, is_letter, letter_of}
use Rattle.letters.specs.Names.{names_bytes, are_names, names_of}

abbrev pub ReadsExactly : {X : Type 0} → (List ℕ → Read X) → (X → List ℕ) → (X → Bool) → Type 0
ReadsExactly {X} p w test =
    (bytes : List ℕ) (x : X) (rest : List ℕ) →
    (p bytes ≡ Ok (x, rest) → (test x ≡ true) × (bytes ≡ w x ++ rest))
    × (test x ≡ true → bytes ≡ w x ++ rest → p bytes ≡ Ok (x, rest))

abbrev pub OneString : {X : Type 0} → (X → List ℕ) → (X → Bool) → Type 0
OneString {X} w test = (x y : X) → test x ≡ true → test y ≡ true → w x ≡ w y → x ≡ y

abbrev pub FrontIsCutShort : {X : Type 0} → (List ℕ → Read X) → (X → List ℕ) → (X → Bool) → Type 0
FrontIsCutShort {X} p w test = (x : X) → test x ≡ true → (k : ℕ) → k < length (w x) → p (take k (w x)) ≡ Err CutShort

abbrev pub MalformedForGood : {X : Type 0} → (List ℕ → Read X) → Type 0
MalformedForGood p = (bytes more : List ℕ) → p bytes ≡ Err Malformed → p (bytes ++ more) ≡ Err Malformed

abbrev pub LetterReadsExactly : Type 0
LetterReadsExactly = ReadsExactly letter_of letter_bytes is_letter

abbrev pub LetterHasOneString : Type 0
LetterHasOneString = OneString letter_bytes is_letter

abbrev pub FrontOfLetterIsCutShort : Type 0
FrontOfLetterIsCutShort = FrontIsCutShort letter_of letter_bytes is_letter

abbrev pub MalformedLetterForGood : Type 0
MalformedLetterForGood = MalformedForGood letter_of

abbrev pub NamesReadExactly : Type 0
NamesReadExactly = ReadsExactly names_of names_bytes are_names

abbrev pub NamesHaveOneString : Type 0
NamesHaveOneString = OneString names_bytes are_names

abbrev pub FrontOfNamesIsCutShort : Type 0
FrontOfNamesIsCutShort = FrontIsCutShort names_of names_bytes are_names

abbrev pub MalformedNamesForGood : Type 0
MalformedNamesForGood = MalformedForGood names_of
