-- What digits spell is one string of bytes.
-- Assumes nothing.
use Rattle.std.proofs.Common.{◌≡◌, ℕ, ◌++◌, [], inl, inr, List, sym, subst, ◌∙◌, OnOk, Ok, Err}
use Rattle.console.proofs.Digits.{reads_back}
use Rattle.change.specs.declared.refusal.Refusal.TheVariants.{Malformed}
use Rattle.history.specs.Book.{Book}
use Rattle.world.specs.Calls.{take_bytes}
use Rattle.answers.specs.Lines.{hex_line, refused_line}
use Rattle.plant_books.specs.Sent.{LetterFor}
use Rattle.desk.specs.Answering.{Ended, Spelt, NoNames, TakeAnswered, DigitsAnswered, LetterAnswered, SendAnswered}
use Rattle.desk.specs.State.{State}

spelt_once : (digits one other : List ℕ) → Spelt digits one → Spelt digits other → other ≡ one
spelt_once digits one other s t =
    let back = reads_back one s.in_range in
    back.1 other t.in_range (back.0 ∙ (sym s.spells ∙ t.spells))

-- the bytes that were read are those that the digits spell
pub digits_taken : (digits bytes : List ℕ) (s t : State) (before after : List ℕ) (r : Ended) → Spelt digits bytes →
    t.request ≡ s.request → TakeAnswered (take_bytes s.book bytes) s.book t.book before after r → DigitsAnswered digits s t before after r
digits_taken digits bytes s t before after r spelt same taken = record {
  request = same;
  taken = λ others others_too.
      let P : List ℕ → Type 0 = λ b. TakeAnswered (take_bytes s.book b) s.book t.book before after r in
      subst P (sym (spelt_once digits bytes others spelt others_too)) taken;
  unspelt = λ none. absurd (none bytes spelt.in_range spelt.spells);
}

-- what is answered for the names that were read is answered for those that the digits spell
pub names_answered : (B : Book) (digits names before after : List ℕ) (r : Ended) → Spelt digits names →
    OnOk r (LetterAnswered B names before after) → SendAnswered B digits before after r
names_answered B digits names before after r spelt answered = record {
  sent = λ others others_too.
      let P : List ℕ → Type 0 = λ b. OnOk r (LetterAnswered B b before after) in
      subst P (sym (spelt_once digits names others spelt others_too)) answered;
  unspelt = λ none. absurd (none names spelt.in_range spelt.spells);
}

pub letter_sent : (B : Book) (names letter before after : List ℕ) (r : Ended) → LetterFor B names letter →
    OnOk r (after ≡ before ++ hex_line letter) → OnOk r (LetterAnswered B names before after)
letter_sent B names letter before after (Ok done) is written = inl (letter, is, written)
letter_sent B names letter before after (Err e) is written = tt

pub names_refused : (B : Book) (names before after : List ℕ) (r : Ended) → NoNames names →
    OnOk r (after ≡ before ++ refused_line Malformed []) → OnOk r (LetterAnswered B names before after)
names_refused B names before after (Ok done) none written = inr (none, written)
names_refused B names before after (Err e) none written = tt
