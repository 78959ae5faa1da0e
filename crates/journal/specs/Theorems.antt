-- What is proved of a book's file. Each is a type; a term of that type in proofs/ is its proof, and a function of src/ names it in its contract.
-- Stops A at rest a: with the records before replayed to the book A, and `at` bytes behind, opening ends at `rest` with the answer a.
-- Opens B bytes a A: the bytes are records, which replay from B to A, and a rest at which opening stops with the answer a.
-- EndsBeyond k at rs: the first of the records rs, if there is one, ends beyond k bytes where `at` bytes are behind.
-- FrontOpened B rs k A: what opening the first k bytes of the records rs gives. Recovered F B later A k: what opening the first k bytes of a file gives that is longer by `later` than it was.
-- Assumes nothing.
use Rattle.std.specs.Prelude.{◌≡◌, ℕ, ◌+◌, ◌<◌, ◌≤◌, true, ◌⊎◌, ◌↔◌, List, [], ◌∷◌, ◌++◌, length, take, Ok, Err, Result}
use Rattle.std.specs.List.{list_all}
use Rattle.change.specs.declared.fault.Fault.TheVariants.{CutShort, Malformed}
use Rattle.change.specs.declared.refusal.Refusal.{Refusal}
use Rattle.change.specs.declared.refusal.Refusal.TheVariants as refused
use Rattle.change.specs.Model.{Change}
use Rattle.history.specs.declared.Outcome.TheVariants.{Taken}
use Rattle.history.specs.declared.Event.{Event}
use Rattle.history.specs.Book.{Book, empty}
use Rattle.history.specs.Taking as takes
use Rattle.history.specs.Taking.{verdict, is_free, taken_back, take_back}
use Rattle.history.specs.Later.{Later}
use Rattle.history.specs.Sane.{Sane}
use Rattle.letters.specs.Theorems.{ReadsExactly, OneString, FrontIsCutShort, MalformedForGood}
use Rattle.making.specs.Request.{Request}
use Rattle.making.specs.Making.{made}
use Rattle.world.specs.Calls.{take_bytes}
use Rattle.journal.specs.Record.{Record, came, went, record_bytes, is_record, record_of, records_bytes, went_bytes}
use Rattle.journal.specs.Replay.{replayed, replayed_all}
use Rattle.journal.specs.Opening.{opened, of_file, Filed}
use Rattle.journal.specs.Calls.{written, Call, called_all, begun}

-- A record is read exactly where the bytes are its bytes; it has one string of bytes; its fronts are cut short; and what is malformed stays so.
abbrev pub RecordReadsExactly : Type 0
RecordReadsExactly = ReadsExactly record_of record_bytes is_record

abbrev pub RecordHasOneString : Type 0
RecordHasOneString = OneString record_bytes is_record

abbrev pub FrontOfRecordIsCutShort : Type 0
FrontOfRecordIsCutShort = FrontIsCutShort record_of record_bytes is_record

abbrev pub MalformedRecordForGood : Type 0
MalformedRecordForGood = MalformedForGood record_of

-- Where nothing waits, as in a book that is being opened, to replay a record is to take the change, which comes in, or to take one back, which may be.
abbrev pub ReplayIsTaking : Type 0
ReplayIsTaking = (B : Book) → B.waiting ≡ [] → (c : Change) (A : Book) → (replayed B (came c) ≡ Ok A) ↔ ((verdict B c ≡ Taken) × ((takes.take B c).1 ≡ A))

abbrev pub ReplayIsTakingBack : Type 0
ReplayIsTakingBack = (B : Book) (n : ℕ) (A : Book) → (replayed B (went n) ≡ Ok A) ↔ ((is_free B n ≡ true) × (take_back B n ≡ A))

abbrev pub Stops : Book → ℕ → List ℕ → Result ℕ Refusal → Type 0
Stops A at rest (Ok n) = (n ≡ at) × (record_of rest ≡ Err CutShort)
Stops A at rest (Err e) =
    ((e ≡ refused.Malformed) × (record_of rest ≡ Err Malformed))
    ⊎ ((r : Record) × (more : List ℕ) × (e ≡ refused.Misplaced) × (record_of rest ≡ Ok (r, more)) × (replayed A r ≡ Err e))

pub record Opens (B : Book) (bytes : List ℕ) (a : Result ℕ Refusal) (A : Book) : Type 0 where
  pub records : List Record
  pub rest : List ℕ
  pub formed : list_all is_record records ≡ true
  pub whole : bytes ≡ records_bytes records ++ rest
  pub replays : replayed_all B records ≡ Ok A
  pub stops : Stops A (length (records_bytes records)) rest a

-- Opening replays the records at the front of the bytes, all that can be, and stops at what is cut short, malformed or misplaced.
abbrev pub OpensExactly : Type 0
OpensExactly = (B : Book) (bytes : List ℕ) (a : Result ℕ Refusal) (A : Book) → (opened B bytes ≡ (a, A)) ↔ Opens B bytes a A

-- The bytes of records that replay are opened to where these lead, and all of them are kept.
abbrev pub RecordsOpen : Type 0
RecordsOpen =
    (B A : Book) (rs : List Record) → list_all is_record rs ≡ true → replayed_all B rs ≡ Ok A →
    opened B (records_bytes rs) ≡ (Ok (length (records_bytes rs)), A)

abbrev pub EndsBeyond : ℕ → ℕ → List Record → Type 0
EndsBeyond k at [] = Unit {0}
EndsBeyond k at (r ∷ rs) = k < at + length (record_bytes r)

-- It leads from B to the book after those of the records that lie wholly in the k bytes, from which the others lead on to A. Their bytes are kept.
pub record FrontOpened (B : Book) (rs : List Record) (k : ℕ) (A : Book) : Type 0 where
  pub front : List Record
  pub back : List Record
  pub parts : rs ≡ front ++ back
  pub middle : Book
  pub first : replayed_all B front ≡ Ok middle
  pub then : replayed_all middle back ≡ Ok A
  pub opens : opened B (take k (records_bytes rs)) ≡ (Ok (length (records_bytes front)), middle)
  pub inside : length (records_bytes front) ≤ k
  pub beyond : EndsBeyond k (length (records_bytes front)) back

abbrev pub FrontOpens : Type 0
FrontOpens = (B A : Book) (rs : List Record) → list_all is_record rs ≡ true → replayed_all B rs ≡ Ok A → (k : ℕ) → FrontOpened B rs k A

-- Whatever the bytes are: what opening keeps of them is opened again to the same book, and all of it is kept.
abbrev pub OpensAgain : Type 0
OpensAgain = (B : Book) (bytes : List ℕ) (n : ℕ) (A : Book) → opened B bytes ≡ (Ok n, A) → (n ≤ length bytes) × (opened B (take n bytes) ≡ (Ok n, A))

-- Whatever the bytes are, the book that was opened came about by taking changes and taking them back, and nothing waits in it.
abbrev pub OpenedArises : Type 0
OpenedArises = (B : Book) → B.waiting ≡ [] → (bytes : List ℕ) → Later B (opened B bytes).1 × ((opened B bytes).1.waiting ≡ [])

-- A file begins without bytes, and what a call writes behind it makes it the file of the book after.
abbrev pub FiledEmpty : Type 0
FiledEmpty = (plant : ℕ) → Filed [] (empty plant)

abbrev pub FiledTake : Type 0
FiledTake = (F : List ℕ) (B : Book) → Filed F B → Sane B → (bytes : List ℕ) (es : List Event) (A : Book) → take_bytes B bytes ≡ Ok (es, A) → Filed (F ++ written B A) A

abbrev pub FiledMade : Type 0
FiledMade =
    (F : List ℕ) (B : Book) → Filed F B → Sane B → B.plant < 16 → (r : Request) (es : List Event) (A : Book) → made B r ≡ Ok (es, A) → Filed (F ++ written B A) A

abbrev pub FiledBack : Type 0
FiledBack = (F : List ℕ) (B : Book) → Filed F B → Sane B → (n : ℕ) → is_free B n ≡ true → Filed (F ++ went_bytes n) (taken_back B n)

-- So along every list of calls the file opens to the book.
abbrev pub FiledAlways : Type 0
FiledAlways = (plant : ℕ) → plant < 16 → (calls : List Call) → Filed (called_all (begun plant) calls).file (called_all (begun plant) calls).book

-- The file was F when the book was B, and now that this is A, the records of `later` are behind it. The book after those of them that lie wholly in the k bytes is what opening gives, and the others lead on from it to A.
pub record Recovered (F : List ℕ) (B : Book) (later : List ℕ) (A : Book) (k : ℕ) : Type 0 where
  pub front : List Record
  pub back : List Record
  pub parts : later ≡ records_bytes (front ++ back)
  pub middle : Book
  pub first : replayed_all (of_file B) front ≡ Ok middle
  pub then : replayed_all middle back ≡ Ok (of_file A)
  pub opens : opened (empty B.plant) (take k (F ++ later)) ≡ (Ok (length F + length (records_bytes front)), middle)
  pub inside : length F + length (records_bytes front) ≤ k
  pub beyond : EndsBeyond k (length F + length (records_bytes front)) back

-- After a crash that leaves any first part of the file with all that was synced, the book opened is that of a moment at or after the sync.
abbrev pub CrashLeavesAMoment : Type 0
CrashLeavesAMoment =
    (plant : ℕ) → plant < 16 → (before after : List Call) →
    let synced = called_all (begun plant) before in let last = called_all synced after in
    (later : List ℕ) × (last.file ≡ synced.file ++ later)
    × ((k : ℕ) → length synced.file ≤ k → Recovered synced.file synced.book later last.book k)
