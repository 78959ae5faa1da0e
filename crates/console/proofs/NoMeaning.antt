-- Lines that say no command: no sheet's number stands behind `sheet`, or the first word is no command's.
-- Assumes nothing.
use Rattle.std.proofs.Common.{◌≡◌, ℕ, ◌<◌, List, ◌∷◌, ◌++◌, length, codes, decimal, sym, refl, ap, ◌∙◌, arith, length-append}
use mathlib.Core.List.{append_cancel_left}
use Rattle.std.specs.Str.Parse.{digits_value}
use Rattle.console.specs.Meaning.{Meaning, sheet, add, kill, make, back, take, have, send, show, lines, Says}
use Rattle.console.specs.Words.{Spaceless}
use Rattle.console.proofs.OneMeaning.{says_that}
use Rattle.console.proofs.Words.{word_of, word_before_space, space_is_found}

pub no_sheet : (rest : List ℕ) → ((n : ℕ) → n < 256 → rest ≡ decimal n → ⊥) → (m : Meaning) → Says (codes "sheet " ++ rest) m → ⊥
no_sheet rest none m h = let that = says_that (codes "sheet " ++ rest) m h in none (digits_value 10 rest) that.0 (append_cancel_left (codes "sheet ") _ _ that.1)

module _ (word : List ℕ) (none : Spaceless word) where
  pub no_word_alone : (word ≡ codes "make" → ⊥) → (word ≡ codes "have" → ⊥) → (word ≡ codes "show" → ⊥) → (word ≡ codes "lines" → ⊥) → (m : Meaning) → Says word m → ⊥
  no_word_alone mk hv sh ln (sheet n) h = space_is_found word (codes "sheet") _ none h.1
  no_word_alone mk hv sh ln (add a b text) h = space_is_found word (codes "add") _ none h.2.1
  no_word_alone mk hv sh ln (kill n) h = space_is_found word (codes "kill") _ none h.1
  no_word_alone mk hv sh ln make e = mk e
  no_word_alone mk hv sh ln (back n) h = space_is_found word (codes "back") _ none h.1
  no_word_alone mk hv sh ln (take digits) e = space_is_found word (codes "take") _ none e
  no_word_alone mk hv sh ln have e = hv e
  no_word_alone mk hv sh ln (send digits) e = space_is_found word (codes "send") _ none e
  no_word_alone mk hv sh ln show e = sh e
  no_word_alone mk hv sh ln lines e = ln e

  module _ (rest : List ℕ) where
    the_word : {line : List ℕ} → word ++ 32 ∷ rest ≡ line → word ≡ word_of line
    the_word e = sym (word_before_space rest word none) ∙ ap word_of e

    nothing_behind : (line : List ℕ) → word_of line ≡ line → word ++ 32 ∷ rest ≡ line → ⊥
    nothing_behind line w e = let p = ap length (the_word e ∙ w) in let q = sym (length-append word (32 ∷ rest)) ∙ ap length e in omega arith

    pub no_word_before_rest : (word ≡ codes "sheet" → ⊥) → (word ≡ codes "add" → ⊥) → (word ≡ codes "kill" → ⊥) → (word ≡ codes "back" → ⊥) → (word ≡ codes "take" → ⊥) → (word ≡ codes "send" → ⊥) →
        (m : Meaning) → Says (word ++ 32 ∷ rest) m → ⊥
    no_word_before_rest st ad kl bk tk sd (sheet n) h = st (the_word h.1)
    no_word_before_rest st ad kl bk tk sd (add a b text) h = ad (the_word h.2.1)
    no_word_before_rest st ad kl bk tk sd (kill n) h = kl (the_word h.1)
    no_word_before_rest st ad kl bk tk sd make e = nothing_behind (codes "make") refl e
    no_word_before_rest st ad kl bk tk sd (back n) h = bk (the_word h.1)
    no_word_before_rest st ad kl bk tk sd (take digits) e = tk (the_word e)
    no_word_before_rest st ad kl bk tk sd have e = nothing_behind (codes "have") refl e
    no_word_before_rest st ad kl bk tk sd (send digits) e = sd (the_word e)
    no_word_before_rest st ad kl bk tk sd show e = nothing_behind (codes "show") refl e
    no_word_before_rest st ad kl bk tk sd lines e = nothing_behind (codes "lines") refl e
