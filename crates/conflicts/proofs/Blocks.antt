-- The blocks of a sheet: the walk, cut; and that a line is in one of them only.
-- Assumes nothing.
use Rattle.std.proofs.Common.{◌≡◌, ℕ, Bool, List, [], ◌∷◌, ◌++◌, sym, refl, ap, ◌∙◌, subst, inl, append_assoc}
use Rattle.std.proofs.lemmas.Bool.{cond_both}
use Rattle.change.specs.Membership.{In}
use Rattle.blocks.specs.Relation.{InSome, InOrder}
use Rattle.blocks.specs.Function.{wholly, cut, cut_all}
use Rattle.blocks.specs.Theorems.{flat}
use Rattle.settling.proofs.Cuts.{in_some_right}

module _ (before : ℕ → ℕ → Bool) where
  flat_cut : (b xs : List ℕ) → flat (cut before b xs) ≡ b ++ xs
  flat_cut b [] = refl
  flat_cut b (x ∷ xs) =
      cond_both (wholly before b (x ∷ xs)) (b ∷ cut before (x ∷ []) xs) (cut before (b ++ x ∷ []) xs) (λ bs. flat bs ≡ b ++ x ∷ xs)
      (λ _. ap (λ l. b ++ l) (flat_cut (x ∷ []) xs)) (λ _. flat_cut (b ++ x ∷ []) xs ∙ append_assoc b (x ∷ []) xs)

  pub flat_cut_all : (xs : List ℕ) → flat (cut_all before xs) ≡ xs
  flat_cut_all [] = refl
  flat_cut_all (x ∷ xs) = flat_cut (x ∷ []) xs

module _ (R : ℕ → ℕ → Type 0) (never : (u : ℕ) → R u u → ⊥) (u : ℕ) where
  pub in_one_block :
      (front front' : List (List ℕ)) (b b' : List ℕ) (back back' : List (List ℕ)) → InOrder R (front ++ b ∷ back) → front ++ b ∷ back ≡ front' ++ b' ∷ back' → In u b → In u b' → b ≡ b'
  in_one_block [] [] b b' back back' o e i j = cc
  in_one_block [] (c ∷ front') b b' back back' o e i j =
      let same : back ≡ front' ++ b' ∷ back' = cc in
      absurd (never u (o.1 u u i (subst (InSome u) (sym same) (in_some_right u front' (b' ∷ back') (inl j)))))
  in_one_block (c ∷ front) [] b b' back back' o e i j =
      let same : c ≡ b' = cc in
      absurd (never u (o.1 u u (subst (In u) (sym same) j) (in_some_right u front (b ∷ back) (inl i))))
  in_one_block (c ∷ front) (c' ∷ front') b b' back back' o e i j =
      let same : front ++ b ∷ back ≡ front' ++ b' ∷ back' = cc in
      in_one_block front front' b b' back back' o.2 same i j
