-- What a line of a script can say, from its first word and what stands behind.
-- WordSays word rest m: by these two, the line says m.
-- Assumes nothing.
use Rattle.std.proofs.Common.{◌≡◌, ℕ, suc, zero, ◌<◌, List, ◌∷◌, ◌++◌, length, codes, decimal, slice_index, sym, ap, ◌∙◌, subst, arith}
use Rattle.std.proofs.lemmas.Fmt.{digits_decimal}
use Rattle.std.proofs.lemmas.Str.Parse.{not_in_digits}
use Rattle.console.specs.Meaning.{Meaning, Says}
use Rattle.console.specs.Words.{Spaceless}
use Rattle.console.proofs.Decimal.{numerals, decimal_has_no_space}
use Rattle.console.proofs.Words.{word_of, behind, word_before_space, rest_behind_space, space_is_found}
use Rattle.rehearse.specs.Lines.{Move, tell, pass, Moves}

abbrev pub WordSays : List ℕ → List ℕ → Move → Type 0
WordSays word rest (tell n m) = (n < 16) × (word ≡ decimal n) × Says rest m
WordSays word rest (pass n m) = (n < 16) × (m < 16) × (word ≡ codes "pass") × (rest ≡ decimal n ++ 32 ∷ decimal m)

pub pass_is_spaceless : Spaceless (codes "pass")
pass_is_spaceless zero less e = omega arith
pass_is_spaceless (suc zero) less e = omega arith
pass_is_spaceless (suc (suc zero)) less e = omega arith
pass_is_spaceless (suc (suc (suc zero))) less e = omega arith
pass_is_spaceless (suc (suc (suc (suc i)))) less e = omega arith

-- no plant's number is that word
pub pass_is_no_number : (n : ℕ) → n < 16 → codes "pass" ≡ decimal n → ⊥
pass_is_no_number n small e =
    let no_p = not_in_digits numerals (decimal n) 112 (digits_decimal numerals n (omega arith)) (λ h. let low = h.1 in omega arith) in
    let len = ap length e in
    no_p 0 (omega arith) (sym (ap (λ w. slice_index w 0) e))

pub says_by_words : (line word rest : List ℕ) → line ≡ word ++ 32 ∷ rest → Spaceless word → (m : Move) → Moves line m → WordSays word rest m
says_by_words line word rest cut none (tell n m) (small, (tail, e, says)) =
    let same = sym cut ∙ e in
    let w = sym (word_before_space rest word none) ∙ ap word_of same ∙ word_before_space tail (decimal n) (decimal_has_no_space n (omega arith)) in
    let r = sym (rest_behind_space rest word none) ∙ ap behind same ∙ rest_behind_space tail (decimal n) (decimal_has_no_space n (omega arith)) in
    (small, w, subst (λ x. Says x m) (sym r) says)
says_by_words line word rest cut none (pass n m) (small, less, e) =
    let same = sym cut ∙ e in
    (small, less, sym (word_before_space rest word none) ∙ ap word_of same, sym (rest_behind_space rest word none) ∙ ap behind same)

pub says_nothing_alone : (line : List ℕ) → Spaceless line → (m : Move) → Moves line m → ⊥
says_nothing_alone line none (tell n m) (small, (tail, e, says)) = space_is_found line (decimal n) tail none e
says_nothing_alone line none (pass n m) (small, less, e) = space_is_found line (codes "pass") _ none e

-- Behind that word, a line can only pass on.
module _ (rest : List ℕ) where
  passes : (m : Move) → Moves (codes "pass " ++ rest) m → (i : ℕ) × (j : ℕ) × (i < 16) × (j < 16) × (rest ≡ decimal i ++ 32 ∷ decimal j)
  passes (tell n m) moves = let h = says_by_words (codes "pass " ++ rest) (codes "pass") rest (λ i. codes "pass " ++ rest) pass_is_spaceless (tell n m) moves in absurd (pass_is_no_number n h.0 h.1)
  passes (pass n m) moves = let h = says_by_words (codes "pass " ++ rest) (codes "pass") rest (λ i. codes "pass " ++ rest) pass_is_spaceless (pass n m) moves in (n, m, h.0, h.1, h.3)

  pub pass_has_space : Spaceless rest → (m : Move) → Moves (codes "pass " ++ rest) m → ⊥
  pass_has_space none m moves = let (i, j, _, _, e) = passes m moves in space_is_found rest (decimal i) (decimal j) none e

  module _ (from to : List ℕ) (cut : rest ≡ from ++ 32 ∷ to) (none : Spaceless from) where
    plants : (m : Move) → Moves (codes "pass " ++ rest) m → ((i : ℕ) × (i < 16) × (from ≡ decimal i)) × ((j : ℕ) × (j < 16) × (to ≡ decimal j))
    plants m moves =
        let (i, j, small, less, e) = passes m moves in
        let same = sym cut ∙ e in
        let plain = decimal_has_no_space i (omega arith) in (
          (i, small, sym (word_before_space to from none) ∙ ap word_of same ∙ word_before_space (decimal j) (decimal i) plain),
          (j, less, sym (rest_behind_space to from none) ∙ ap behind same ∙ rest_behind_space (decimal j) (decimal i) plain),
        )

    pub pass_has_first_plant : ((n : ℕ) → n < 16 → from ≡ decimal n → ⊥) → (m : Move) → Moves (codes "pass " ++ rest) m → ⊥
    pass_has_first_plant no_plant m moves = let (i, small, e) = (plants m moves).0 in no_plant i small e

    pub pass_has_second_plant : ((n : ℕ) → n < 16 → to ≡ decimal n → ⊥) → (m : Move) → Moves (codes "pass " ++ rest) m → ⊥
    pass_has_second_plant no_plant m moves = let (j, less, e) = (plants m moves).1 in no_plant j less e

    pub pass_is_said : (i j : ℕ) → i < 16 → j < 16 → from ≡ decimal i → to ≡ decimal j → Moves (codes "pass " ++ rest) (pass i j)
    pass_is_said i j small less first second =
        (small, less, ap (λ r. codes "pass " ++ r) cut ∙ ap (λ w. codes "pass " ++ (w ++ 32 ∷ to)) first ∙ ap (λ w. codes "pass " ++ (decimal i ++ 32 ∷ w)) second)

-- Behind another word, a line can only tell.
module _ (word rest : List ℕ) (none : Spaceless word) (other : word ≡ codes "pass" → ⊥) where
  tells : (m : Move) → Moves (word ++ 32 ∷ rest) m → (n : ℕ) × (d : Meaning) × (n < 16) × (word ≡ decimal n) × Says rest d
  tells (tell n d) moves = let h = says_by_words (word ++ 32 ∷ rest) word rest (λ i. word ++ 32 ∷ rest) none (tell n d) moves in (n, d, h.0, h.1, h.2)
  tells (pass n m) moves = let h = says_by_words (word ++ 32 ∷ rest) word rest (λ i. word ++ 32 ∷ rest) none (pass n m) moves in absurd (other h.2)

  pub tell_has_plant : ((n : ℕ) → n < 16 → word ≡ decimal n → ⊥) → (m : Move) → Moves (word ++ 32 ∷ rest) m → ⊥
  tell_has_plant no_plant m moves = let (n, d, small, e, says) = tells m moves in no_plant n small e

  pub tell_has_command : ((d : Meaning) → Says rest d → ⊥) → (m : Move) → Moves (word ++ 32 ∷ rest) m → ⊥
  tell_has_command no_command m moves = let (n, d, small, e, says) = tells m moves in no_command d says
