-- The first word of a line, and what stands behind its space.
-- Assumes nothing.
use Rattle.std.proofs.Common.{◌≡◌, ℕ, suc, cond, eqb, List, [], ◌∷◌, ◌++◌, length, get_or, Some, None, sym, refl, ap, ◌∙◌, ⊎_elim, arith, lit<, length-append, Bor, ne_eqb}
use Rattle.std.proofs.lemmas.List.{get_or_at}
use Rattle.std.proofs.lemmas.Str.Pattern.{IsSplitOnceResult, split_parts}
use Rattle.console.specs.Words.{Spaceless, Split}

abbrev pub word_of : List ℕ → List ℕ
word_of [] = []
word_of (x ∷ line) = cond (eqb x 32) [] (x ∷ word_of line)

abbrev pub behind : List ℕ → List ℕ
behind [] = []
behind (x ∷ line) = cond (eqb x 32) line (behind line)

module _ (rest : List ℕ) where
  pub word_before_space : (word : List ℕ) → Spaceless word → word_of (word ++ 32 ∷ rest) ≡ word
  word_before_space [] none = refl
  word_before_space (x ∷ word) none = rw (ne_eqb x 32 (none 0 (omega arith))) (ap (λ w. x ∷ w) (word_before_space word (λ i l. none (suc i) (omega arith))))

  pub rest_behind_space : (word : List ℕ) → Spaceless word → behind (word ++ 32 ∷ rest) ≡ rest
  rest_behind_space [] none = refl
  rest_behind_space (x ∷ word) none = rw (ne_eqb x 32 (none 0 (omega arith))) (rest_behind_space word (λ i l. none (suc i) (omega arith)))

word_alone : (word : List ℕ) → Spaceless word → word_of word ≡ word
word_alone [] none = refl
word_alone (x ∷ word) none = rw (ne_eqb x 32 (none 0 (omega arith))) (ap (λ w. x ∷ w) (word_alone word (λ i l. none (suc i) (omega arith))))

none_behind_word : (word : List ℕ) → Spaceless word → behind word ≡ []
none_behind_word [] none = refl
none_behind_word (x ∷ word) none = rw (ne_eqb x 32 (none 0 (omega arith))) (none_behind_word word (λ i l. none (suc i) (omega arith)))

module _ (line word rest : List ℕ) (split : Split line word rest) (none : Spaceless word) where
  pub word_of_split : word_of line ≡ word
  word_of_split = ⊎_elim (λ e. ap word_of e ∙ word_before_space rest word none) (λ p. ap word_of p.0 ∙ word_alone word none) split

  pub rest_of_split : behind line ≡ rest
  rest_of_split = ⊎_elim (λ e. ap behind e ∙ rest_behind_space rest word none) (λ p. ap behind p.0 ∙ none_behind_word word none ∙ sym p.1) split

pub space_is_found : (word front rest : List ℕ) → Spaceless word → word ≡ front ++ 32 ∷ rest → ⊥
space_is_found word front rest none e =
    let l = ap length e ∙ length-append front (32 ∷ rest) in none (length front) (omega arith) (ap (λ w. get_or w (length front) 0) e ∙ get_or_at front 32 rest 0 (length front) refl)

-- what `split_once` answers at a space
pub cut_at_space : (line : List ℕ) (parts : Bor (List ℕ) × Bor (List ℕ)) → IsSplitOnceResult 32 line (Some parts) → (line ≡ parts.0.now ++ 32 ∷ parts.1.now) × Spaceless parts.0.now
cut_at_space line parts h = split_parts 32 line (Some parts) h (lit< tt)

pub no_cut : (line : List ℕ) → IsSplitOnceResult 32 line None → Spaceless line
no_cut line h = split_parts 32 line None h (lit< tt)
