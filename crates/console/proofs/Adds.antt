-- What stands behind the word `add`, cut at its first space, and what is behind that at its own.
-- Assumes nothing.
use Rattle.std.proofs.Common.{◌≡◌, ℕ, ◌^◌, ◌<◌, List, ◌∷◌, ◌++◌, codes, decimal, sym, ap, ◌∙◌, subst}
use mathlib.Core.List.{append_cancel_left}
use Rattle.console.specs.Meaning.{Meaning, add, Says}
use Rattle.console.specs.Words.{Spaceless, Split}
use Rattle.console.proofs.Decimal.{decimal_has_no_space}
use Rattle.console.proofs.OneMeaning.{says_that}
use Rattle.console.proofs.Words.{word_of, behind, word_before_space, rest_behind_space, word_of_split, space_is_found}

pub add_has_space : (rest : List ℕ) → Spaceless rest → (m : Meaning) → Says (codes "add " ++ rest) m → ⊥
add_has_space rest none m h =
    let (_, _, (later, e, _)) = says_that (codes "add " ++ rest) m h in space_is_found rest _ later none (append_cancel_left (codes "add ") _ _ e)

module _ (rest after later : List ℕ) (cut : rest ≡ after ++ 32 ∷ later) (none : Spaceless after) where
  -- the two numbers of an add
  add_numbers : (m : Meaning) → Says (codes "add " ++ rest) m → ((a : ℕ) × (a < 2 ^ 32) × (after ≡ decimal a)) × ((b : ℕ) × (b < 2 ^ 32) × (word_of later ≡ decimal b))
  add_numbers m h =
      let (less, small, (tail, e, split)) = says_that (codes "add " ++ rest) m h in
      let same = sym cut ∙ append_cancel_left (codes "add ") _ _ e in
      let first = sym (word_before_space later after none) ∙ ap word_of same ∙ word_before_space tail _ (decimal_has_no_space _ less) in
      let second = sym (rest_behind_space later after none) ∙ ap behind same ∙ rest_behind_space tail _ (decimal_has_no_space _ less) in
      ((_, less, first), (_, small, ap word_of second ∙ word_of_split tail _ _ split (decimal_has_no_space _ small)))

  pub add_has_first_number : ((n : ℕ) → n < 2 ^ 32 → after ≡ decimal n → ⊥) → (m : Meaning) → Says (codes "add " ++ rest) m → ⊥
  add_has_first_number no_number m h = let (a, less, e) = (add_numbers m h).0 in no_number a less e

  pub add_has_second_number : (before text : List ℕ) → Spaceless before → Split later before text → ((n : ℕ) → n < 2 ^ 32 → before ≡ decimal n → ⊥) → (m : Meaning) → Says (codes "add " ++ rest) m → ⊥
  add_has_second_number before text plain split no_number m h = let (b, small, e) = (add_numbers m h).1 in no_number b small (sym (word_of_split later before text split plain) ∙ e)

  pub add_is_said : (before text bytes : List ℕ) (a b : ℕ) → after ≡ decimal a → before ≡ decimal b → Split later before text → bytes ≡ text → a < 2 ^ 32 → b < 2 ^ 32 → Says (codes "add " ++ rest) (add a b bytes)
  add_is_said before text bytes a b first second split same less small =
      (less, small, (later, ap (λ r. codes "add " ++ r) cut ∙ ap (λ w. codes "add " ++ (w ++ 32 ∷ later)) first, subst (λ t. Split later (decimal b) t) (sym same) (subst (λ w. Split later w text) second split)))
