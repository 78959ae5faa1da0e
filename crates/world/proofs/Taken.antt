-- What taking bytes comes to: the change or the letter whose bytes they are.
-- Assumes nothing.
use Rattle.std.proofs.Common.{◌≡◌, ℕ, Bool, true, false, cond, eqb, List, [], ◌∷◌, Ok, Err, sym, refl, ap, ◌∙◌, subst, append-nil}
use Rattle.change.specs.declared.refusal.Refusal.TheVariants.{Malformed}
use Rattle.change.specs.Model.{Change}
use Rattle.change.specs.WellFormed.{well_formed}
use Rattle.change.specs.Bytes.{change_bytes}
use Rattle.change.specs.Reading.{Read, change_of}
use Rattle.change.proofs.Codec.{reads_exactly}
use Rattle.history.specs.Book.{Book}
use Rattle.history.specs.Taking.{take}
use Rattle.letters.specs.Letter.{letter_kind, letter_bytes, is_letter, letter_of}
use Rattle.letters.proofs.Codec.{letter_reads_exactly}
use Rattle.sending.specs.Receiving.{received}
use Rattle.world.specs.Calls.{Done, wholly, with, kind_of, take_bytes}
use Rattle.world.specs.Theorems.{TakesWhatIsMeant}

pub taken_as_change : (B : Book) (c : Change) → well_formed c ≡ true → take_bytes B (change_bytes c) ≡ Ok (take B c)
taken_as_change B c formed = ap (λ r. with (take B) (wholly r)) ((reads_exactly (change_bytes c) c []).1 formed (sym (append-nil (change_bytes c))))

pub taken_as_letter : (B : Book) (cs : List Change) → is_letter cs ≡ true → take_bytes B (letter_bytes cs) ≡ Ok (received B cs)
taken_as_letter B cs formed = ap (λ r. with (received B) (wholly r)) ((letter_reads_exactly (letter_bytes cs) cs []).1 formed (sym (append-nil (letter_bytes cs))))

-- What holds of a refusal, of what taking a change comes to, and of what receiving a letter comes to, holds of what taking bytes does.
pub taken_either :
    (B : Book) (bytes : List ℕ) (P : Done → Type 0) →
    ((c : Change) → well_formed c ≡ true → bytes ≡ change_bytes c → P (Ok (take B c))) →
    ((cs : List Change) → is_letter cs ≡ true → bytes ≡ letter_bytes cs → P (Ok (received B cs))) →
    P (Err Malformed) → P (take_bytes B bytes)
taken_either B bytes P change letter neither = go (eqb (kind_of bytes) letter_kind)
  where
    a_change : (r : Read Change) → change_of bytes ≡ r → P (with (take B) (wholly r))
    a_change (Ok (c, [])) e = let (formed, same) = (reads_exactly bytes c []).0 e in change c formed (same ∙ append-nil (change_bytes c))
    a_change (Ok (c, b ∷ rest)) e = neither
    a_change (Err f) e = neither

    a_letter : (r : Read (List Change)) → letter_of bytes ≡ r → P (with (received B) (wholly r))
    a_letter (Ok (cs, [])) e = let (formed, same) = (letter_reads_exactly bytes cs []).0 e in letter cs formed (same ∙ append-nil (letter_bytes cs))
    a_letter (Ok (cs, b ∷ rest)) e = neither
    a_letter (Err f) e = neither

    go : (b : Bool) → P (cond b (with (received B) (wholly (letter_of bytes))) (with (take B) (wholly (change_of bytes))))
    go true = a_letter (letter_of bytes) refl
    go false = a_change (change_of bytes) refl

pub takes_what_is_meant : TakesWhatIsMeant
takes_what_is_meant B bytes = (
  λ c formed e. subst (λ bs. take_bytes B bs ≡ Ok (take B c)) (sym e) (taken_as_change B c formed),
  λ cs formed e. subst (λ bs. take_bytes B bs ≡ Ok (received B cs)) (sym e) (taken_as_letter B cs formed),
  λ no_change no_letter. taken_either B bytes (λ d. d ≡ Err Malformed) (λ c formed e. absurd (no_change c formed e)) (λ cs formed e. absurd (no_letter cs formed e)) refl,
)
