-- Reading a letter to its end, from what reading its head and its changes says.
-- Assumes nothing.
use Rattle.std.proofs.Common.{◌≡◌, ℕ, List, length, Ok, Err, sym, refl, ap, ◌∙◌}
use Rattle.change.specs.declared.refusal.Refusal.TheVariants.{Malformed}
use Rattle.change.specs.Model.{Change}
use Rattle.change.specs.Reading.{Read, next, several, change_of}
use Rattle.change.specs.declared.trouble.Trouble.{Trouble}
use Rattle.change.specs.declared.trouble.Trouble.TheVariants.{Refused, Memory}
use Rattle.letters.specs.declared.change_bytes.ChangeBytes.{ChangeBytes}
use Rattle.letters.specs.Letter.{letter_kind, letter_limit, letter_of}
use Rattle.letters.specs.LetterRead.{LetterRead, ChangesRead}
use Rattle.letters.specs.Message.{head_of}
use Rattle.letters.proofs.Codec.{letter_exact, fault_is_no_value, rest_is_no_value, no_rest_is_whole}

abbrev pub changes_of : ℕ → List ℕ → Read (List Change)
changes_of n bytes = several (λ _. change_of) (λ _. 0) n 0 bytes

-- A cursor over the bytes, of which `start` is left at first and `rest` behind the head.
module _ {bytes start rest : List ℕ} {n : ℕ} (all : start ≡ bytes) (head : Ok (n, rest) ≡ head_of letter_kind letter_limit start) where
  letter_is : letter_of bytes ≡ changes_of n rest
  letter_is = ap letter_of (sym all) ∙ ap (λ r. next r (λ m l. several (λ _. change_of) (λ _. 0) m 0 l)) (sym head)

  module _ {V : Type 0} (parts_of : V → List ChangeBytes) (rest' : List ℕ) where
    pub faults_alike : (e : Trouble) → ChangesRead parts_of (changes_of n rest) rest' (Err e) → LetterRead parts_of bytes (Err e)
    faults_alike (Refused r) (malformed, (f, fault)) = (malformed, fault_is_no_value letter_exact bytes (letter_is ∙ fault))
    faults_alike Memory read = tt

    pub left_over : (v : V) → ChangesRead parts_of (changes_of n rest) rest' (Ok v) → (length rest' ≡ 0 → ⊥) → LetterRead parts_of bytes (Err (Refused Malformed))
    left_over v read more = (refl, rest_is_no_value letter_exact rest' bytes (letter_is ∙ read) more)

    pub read_whole : (v : V) → ChangesRead parts_of (changes_of n rest) rest' (Ok v) → length rest' ≡ 0 → LetterRead parts_of bytes (Ok v)
    read_whole v read none = no_rest_is_whole letter_exact _ rest' bytes (letter_is ∙ read) none
