-- The changes of a sheet gathered from the last place to the first, which lists the latest first.
-- sheet_from n cs i: those of sheet n among the changes cs from place i on.
-- Assumes nothing.
use Rattle.std.proofs.Common.{◌≡◌, ℕ, zero, suc, ◌-◌, ◌<◌, ◌≤◌, eqb, List, [], ◌∷◌, ◌++◌, reverse, length, drop, Some, None, Option, sym, refl, ap, ◌∙◌, append_assoc, append-nil, arith}
use mathlib.Core.List.{reverse-append}
use Rattle.std.specs.List.{slice_get, flat_map}
use Rattle.std.specs.Option.{option_to_list}
use Rattle.std.proofs.lemmas.List.Elements.{filter-append}
use Rattle.std.proofs.lemmas.List.{drop_all}
use Rattle.change.specs.Model.{Change}
use Rattle.blocks.specs.Sheet.{of_sheet, gather, killed}
use Rattle.display.specs.Added.{added_by, spared, sparing}

abbrev pub sheet_from : ℕ → List Change → ℕ → List Change
sheet_from n cs i = of_sheet n (reverse (drop i cs))

drop_at_place : {X : Type 0} (xs : List X) (i : ℕ) → drop i xs ≡ option_to_list (slice_get xs i) ++ drop (suc i) xs
drop_at_place [] zero = refl
drop_at_place [] (suc i) = refl
drop_at_place (x ∷ xs) zero = refl
drop_at_place (x ∷ xs) (suc i) = drop_at_place xs i

reverse_one : {X : Type 0} (o : Option X) → reverse (option_to_list o) ≡ option_to_list o
reverse_one None = refl
reverse_one (Some x) = refl

module _ (n : ℕ) (cs : List Change) where
  pub none_from_end : (i : ℕ) → length cs ≤ i → sheet_from n cs i ≡ []
  none_from_end i past = ap (λ l. of_sheet n (reverse l)) (drop_all i cs past)

  pub one_further : (i : ℕ) (ds : List Change) → 0 < i → ds ≡ of_sheet n (option_to_list (slice_get cs (i - 1))) → sheet_from n cs (i - 1) ≡ sheet_from n cs i ++ ds
  one_further zero ds low e = absurd (omega arith)
  one_further (suc i) ds low e =
      let back : suc i - 1 ≡ i = omega arith in
      ap (sheet_from n cs) back
      ∙ ap (λ l. of_sheet n (reverse l)) (drop_at_place cs i)
      ∙ ap (of_sheet n) (reverse-append (option_to_list (slice_get cs i)) (drop (suc i) cs) ∙ ap (λ l. reverse (drop (suc i) cs) ++ l) (reverse_one (slice_get cs i)))
      ∙ filter-append (λ c. eqb c.sheet n) (reverse (drop (suc i) cs)) (option_to_list (slice_get cs i))
      ∙ ap (λ l. sheet_from n cs (suc i) ++ l) (sym (e ∙ ap (λ k. of_sheet n (option_to_list (slice_get cs k))) back))

  pub same_further : (i : ℕ) → 0 < i → [] ≡ of_sheet n (option_to_list (slice_get cs (i - 1))) → sheet_from n cs (i - 1) ≡ sheet_from n cs i
  same_further i low e = one_further i [] low e ∙ append-nil (sheet_from n cs i)

gather_append : (part : Change → List ℕ) (S T : List Change) → gather part (S ++ T) ≡ gather part S ++ gather part T
gather_append part [] T = refl
gather_append part (c ∷ S) T = ap (λ l. part c ++ l) (gather_append part S T) ∙ sym (append_assoc (part c) (gather part S) (gather part T))

pub killed_more : (S T : List Change) (c : Change) → T ≡ S ++ c ∷ [] → killed T ≡ killed S ++ c.kills
killed_more S T c e = ap killed e ∙ gather_append (λ d. d.kills) S (c ∷ []) ∙ ap (λ l. killed S ++ l) (append-nil c.kills)

pub sparing_one_more : (ks : List ℕ) (S T : List Change) (c : Change) → T ≡ S ++ c ∷ [] → sparing ks (flat_map added_by T) ≡ sparing ks (flat_map added_by S) ++ sparing ks (added_by c)
sparing_one_more ks S T c e =
    let test = λ (p : ℕ × List ℕ). spared ks p.0 in
    ap (λ l. sparing ks (flat_map added_by l)) e
    ∙ ap (sparing ks) (all_joined S)
    ∙ filter-append test (flat_map added_by S) (added_by c)
  where
    all_joined : (S : List Change) → flat_map added_by (S ++ c ∷ []) ≡ flat_map added_by S ++ added_by c
    all_joined [] = append-nil (added_by c)
    all_joined (d ∷ S) = ap (λ l. added_by d ++ l) (all_joined S) ∙ sym (append_assoc (added_by d) (flat_map added_by S) (added_by c))
