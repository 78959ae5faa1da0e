-- Whether a change at a place is one of a sheet, by the sheet that stands there.
-- Assumes nothing.
use Rattle.std.proofs.Common.{◌≡◌, ℕ, zero, suc, eqb, List, [], ◌∷◌, map, Some, None, Option, sym, refl, ◌∙◌, arith}
use Rattle.std.specs.List.{slice_get}
use Rattle.std.specs.Option.{option_map, option_to_list}
use Rattle.std.proofs.lemmas.Bool.{cond-true, cond-false, eq-eqb, ne_eqb}
use Rattle.change.specs.Model.{Change}
use Rattle.blocks.specs.Sheet.{of_sheet}

nth_map : {X Y : Type 0} (f : X → Y) (xs : List X) (i : ℕ) → slice_get (map f xs) i ≡ option_map f (slice_get xs i)
nth_map f [] i = refl
nth_map f (x ∷ xs) zero = refl
nth_map f (x ∷ xs) (suc i) = nth_map f xs i

module _ (n : ℕ) where
  none_is_none : (o : Option Change) → None ≡ option_map (λ c. c.sheet) o → [] ≡ of_sheet n (option_to_list o)
  none_is_none None e = refl
  none_is_none (Some c) e = let z : ◌≡◌ {A = ℕ} 0 1 = cc in absurd (omega arith)

  other_is_none : (o : Option Change) (x : ℕ) → Some x ≡ option_map (λ c. c.sheet) o → (x ≡ n → ⊥) → [] ≡ of_sheet n (option_to_list o)
  other_is_none None x e other = refl
  other_is_none (Some c) x e other = let same : x ≡ c.sheet = cc in sym (cond-false (eqb c.sheet n) (c ∷ []) [] (ne_eqb c.sheet n (λ d. other (same ∙ d))))

  same_is_whole : (o : Option Change) (x : ℕ) → Some x ≡ option_map (λ c. c.sheet) o → x ≡ n → option_to_list o ≡ of_sheet n (option_to_list o)
  same_is_whole None x e same = refl
  same_is_whole (Some c) x e same = let mine : c.sheet ≡ x = cc in sym (cond-true (eqb c.sheet n) (c ∷ []) [] (eq-eqb c.sheet n (mine ∙ same)))

  module _ (cs : List Change) (i : ℕ) where
    pub no_change : None ≡ slice_get (map (λ c. c.sheet) cs) i → [] ≡ of_sheet n (option_to_list (slice_get cs i))
    no_change e = none_is_none (slice_get cs i) (e ∙ nth_map (λ c. c.sheet) cs i)

    pub other_sheet : (x : ℕ) → Some x ≡ slice_get (map (λ c. c.sheet) cs) i → (x ≡ n → ⊥) → [] ≡ of_sheet n (option_to_list (slice_get cs i))
    other_sheet x e = other_is_none (slice_get cs i) x (e ∙ nth_map (λ c. c.sheet) cs i)

    pub same_sheet : (x : ℕ) → Some x ≡ slice_get (map (λ c. c.sheet) cs) i → x ≡ n → option_to_list (slice_get cs i) ≡ of_sheet n (option_to_list (slice_get cs i))
    same_sheet x e = same_is_whole (slice_get cs i) x (e ∙ nth_map (λ c. c.sheet) cs i)
