-- What is answered to a command, and what is on the desk then.
-- Throughout: s is what was on the desk, t what is on it then; before are the bytes that were answered so far, after those that are then; r says whether there was memory. Where there was none, a part of a line may be answered.
-- Told lines s t before after r: nothing is altered, and these lines are answered. TurnedAway: the line is refused, and nothing is altered.
-- TakeAnswered done B A before after r: of the book B, which then is A, where the theory says `done`: the lines added are those of the events, or the refusal, which alters nothing. Want of memory alters nothing of the book or was found when all was done.
-- BackAnswered free name before after r: the line that says whether a change was taken back.
-- AddAnswered a: the request gets the add a, or a is refused, since its text is none. MakeAnswered done: a change is made of the request, where the theory says `done`; the request begins anew on its sheet, unless memory was wanting.
-- Spelt digits bytes: the digits are these bytes. Unspelt digits: they are no bytes. NoNames bytes: the bytes are no names. DigitsAnswered digits: what the digits spell is taken. SendAnswered B digits: the letter of the book B is answered, for the names that the digits spell.
-- SaysNothing line: the line says no command. NoText bytes: they are no text.
-- Assumes nothing.
use Rattle.std.specs.Prelude.{◌≡◌, ℕ, Bool, true, cond, ◌⊎◌, List, [], ◌++◌, drop, length, Ok, Err, OnOk, codes, is_ok, IsUtf8, Result, ◌≢◌}
use Rattle.std.specs.List.{flat_map}
use Rattle.std.specs.declared.alloc.AllocError.{AllocError}
use Rattle.change.specs.declared.refusal.Refusal.TheVariants.{Malformed, Needed}
use Rattle.change.specs.Model.{Add}
use Rattle.change.specs.WellFormed.{is_text}
use Rattle.history.specs.Book.{Book, next_name}
use Rattle.world.specs.Calls.{Done, take_bytes}
use Rattle.drafts.specs.Parts.{with_add}
use Rattle.letters.specs.Names.{names_bytes, are_names}
use Rattle.plant_books.specs.Sent.{LetterFor}
use Rattle.console.specs.Hex.{AreBytes, Spells}
use Rattle.console.specs.Meaning.{Meaning, Says}
use Rattle.answers.specs.Lines.{spaced, name_line, refused_line, event_line, made_line, hex_line}
use Rattle.desk.specs.State.{State, begun}

abbrev pub Ended : Type 0
Ended = Result (Unit {0}) AllocError

pub record Told (lines : List ℕ) (s t : State) (before after : List ℕ) (r : Ended) : Type 0 where
  pub same : t ≡ s
  pub line : OnOk r (after ≡ before ++ lines)

abbrev pub TurnedAway : State → State → List ℕ → List ℕ → Ended → Type 0
TurnedAway = Told (refused_line Malformed [])

abbrev pub TakeAnswered : Done → Book → Book → List ℕ → List ℕ → Ended → Type 0
TakeAnswered (Ok (es, C)) B A before after (Ok done) = (A ≡ C) × (after ≡ before ++ flat_map event_line es)
TakeAnswered (Ok (es, C)) B A before after (Err e) = (A ≡ B) ⊎ (A ≡ C)
TakeAnswered (Err refusal) B A before after (Ok done) = (A ≡ B) × (after ≡ before ++ refused_line refusal [])
TakeAnswered (Err refusal) B A before after (Err e) = A ≡ B

abbrev pub BackAnswered : Bool → ℕ → List ℕ → List ℕ → Ended → Type 0
BackAnswered free name before after (Ok done) = after ≡ before ++ cond free (name_line (codes "back") name) (refused_line Needed (spaced name))
BackAnswered free name before after (Err e) = Unit {0}

pub record AddAnswered (a : Add) (s t : State) (before after : List ℕ) (r : Ended) : Type 0 where
  pub book : t.book ≡ s.book
  pub request : t.request ≡ cond (is_text a.text) (cond (is_ok r) (with_add s.request a) s.request) s.request
  pub line : OnOk r (after ≡ before ++ cond (is_text a.text) [] (refused_line Malformed []))

abbrev pub MakeAnswered : Done → State → State → List ℕ → List ℕ → Ended → Type 0
MakeAnswered (Ok (es, C)) s t before after (Ok done) = (t ≡ record { book = C; request = begun s.request.sheet }) × (after ≡ before ++ made_line (next_name s.book) (length s.request.adds) ++ flat_map event_line (drop 1 es))
MakeAnswered (Ok (es, C)) s t before after (Err e) = (t.request ≡ s.request) × ((t.book ≡ s.book) ⊎ (t.book ≡ C))
MakeAnswered (Err refusal) s t before after r = Told (refused_line refusal []) s t before after r

pub record Spelt (digits bytes : List ℕ) : Type 0 where
  pub in_range : AreBytes bytes
  pub spells : Spells digits bytes

abbrev pub Unspelt : List ℕ → Type 0
Unspelt digits = (bytes : List ℕ) → AreBytes bytes → Spells digits bytes → ⊥

abbrev pub NoNames : List ℕ → Type 0
NoNames bytes = (ns : List ℕ) → are_names ns ≡ true → bytes ≢ names_bytes ns

pub record DigitsAnswered (digits : List ℕ) (s t : State) (before after : List ℕ) (r : Ended) : Type 0 where
  pub request : t.request ≡ s.request
  pub taken : (bytes : List ℕ) → Spelt digits bytes → TakeAnswered (take_bytes s.book bytes) s.book t.book before after r
  pub unspelt : Unspelt digits → TurnedAway s t before after r

-- the letter for these names; they are refused where they are none
abbrev pub LetterAnswered : Book → List ℕ → List ℕ → List ℕ → Type 0
LetterAnswered B names before after = ((letter : List ℕ) × LetterFor B names letter × (after ≡ before ++ hex_line letter)) ⊎ (NoNames names × (after ≡ before ++ refused_line Malformed []))

pub record SendAnswered (B : Book) (digits before after : List ℕ) (r : Ended) : Type 0 where
  pub sent : (names : List ℕ) → Spelt digits names → OnOk r (LetterAnswered B names before after)
  pub unspelt : Unspelt digits → OnOk r (after ≡ before ++ refused_line Malformed [])

abbrev pub SaysNothing : List ℕ → Type 0
SaysNothing line = (m : Meaning) → Says line m → ⊥

abbrev pub NoText : List ℕ → Type 0
NoText bytes = IsUtf8 bytes → ⊥
