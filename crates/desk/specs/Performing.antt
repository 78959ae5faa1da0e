-- What a command does, by what it says.
-- Performed m s t before after r: the command m is performed on a desk with s on it, which then has t on it; before are the bytes that were answered so far, after those that are then; r says whether there was memory.
-- Assumes nothing.
use Rattle.std.specs.Prelude.{◌≡◌, ℕ, cond, List, ◌++◌, Ok, OnOk, is_ok}
use Rattle.blocks.specs.Sheet.{of_sheet, shown}
use Rattle.letters.specs.Names.{names_bytes}
use Rattle.outgoing.specs.NameList.{name_list}
use Rattle.display.specs.declared.listing.Listing.{Listing}
use Rattle.display.specs.Listing.{Lists}
use Rattle.history.specs.Taking.{is_free, take_back}
use Rattle.making.specs.Making.{made}
use Rattle.drafts.specs.Parts.{with_kill}
use Rattle.console.specs.Meaning.{Meaning, sheet, add, kill, make, back, take, have, send, show, lines}
use Rattle.answers.specs.Lines.{hex_line, listing_lines}
use Rattle.desk.specs.Answering.{Ended, Told, BackAnswered, AddAnswered, MakeAnswered, DigitsAnswered, SendAnswered}
use Rattle.desk.specs.State.{State, begun}

-- a request is altered, unless there is no memory, and nothing is answered
pub record Filled (t s : State) (before after : List ℕ) : Type 0 where
  pub state : t ≡ s
  pub line : after ≡ before

abbrev pub Performed : Meaning → State → State → List ℕ → List ℕ → Ended → Type 0
Performed (sheet n) s t before after r = (r ≡ Ok tt) × Filled t (record { book = s.book; request = begun n }) before after
Performed (add a b text) s t before after r = AddAnswered (record { after = a; before = b; text = text }) s t before after r
Performed (kill u) s t before after r = Filled t (record { book = s.book; request = cond (is_ok r) (with_kill s.request u) s.request }) before after
Performed make s t before after r = MakeAnswered (made s.book s.request) s t before after r
Performed (back n) s t before after r = (t ≡ record { book = take_back s.book n; request = s.request }) × BackAnswered (is_free s.book n) n before after r
Performed (take digits) s t before after r = DigitsAnswered digits s t before after r
Performed have s t before after r = Told (hex_line (names_bytes (name_list s.book.changes))) s t before after r
Performed (send digits) s t before after r = (t ≡ s) × SendAnswered s.book digits before after r
Performed show s t before after r = Told (shown s.request.sheet s.book.changes) s t before after r
Performed lines s t before after r = (t ≡ s) × OnOk r ((all : Listing) × Lists (of_sheet s.request.sheet s.book.changes) all × (after ≡ before ++ listing_lines all))
