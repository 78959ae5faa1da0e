-- The bytes of blocks: of two lists of them, of single lines, and by texts that are alike.
-- Assumes nothing.
use Rattle.std.proofs.Common.{◌≡◌, ℕ, List, [], ◌∷◌, ◌++◌, map, decimal, sym, refl, ap, ◌∙◌, ap₂, inl, inr, append_assoc}
use Rattle.change.specs.Membership.{In}
use Rattle.blocks.specs.Relation.{InSome}
use Rattle.blocks.specs.Bytes.{numbered, block_bytes, sheet_bytes}
use Rattle.settling.specs.Settled.{singles, plain_lines}

pub sheet_bytes_on : (text : ℕ → List ℕ) (bs cs : List (List ℕ)) → sheet_bytes text (bs ++ cs) ≡ sheet_bytes text bs ++ sheet_bytes text cs
sheet_bytes_on text [] cs = refl
sheet_bytes_on text (b ∷ bs) cs = ap (λ x. block_bytes text b ++ x) (sheet_bytes_on text bs cs) ∙ sym (append_assoc (block_bytes text b) (sheet_bytes text bs) (sheet_bytes text cs))

pub singles_bytes : (text : ℕ → List ℕ) (us : List ℕ) → sheet_bytes text (singles us) ≡ plain_lines (map text us)
singles_bytes text [] = refl
singles_bytes text (u ∷ us) = ap (λ x. (text u ++ 10 ∷ []) ++ x) (singles_bytes text us)

module _ (text other : ℕ → List ℕ) where
  numbered_alike : (us : List ℕ) → ((u : ℕ) → In u us → text u ≡ other u) → numbered text us ≡ numbered other us
  numbered_alike [] same = refl
  numbered_alike (u ∷ us) same = ap₂ (λ t x. decimal u ++ 32 ∷ (t ++ 10 ∷ x)) (same u (inl refl)) (numbered_alike us (λ v i. same v (inr i)))

  block_alike : (b : List ℕ) → ((u : ℕ) → In u b → text u ≡ other u) → block_bytes text b ≡ block_bytes other b
  block_alike [] same = refl
  block_alike (u ∷ []) same = ap (λ t. t ++ 10 ∷ []) (same u (inl refl))
  block_alike (u ∷ v ∷ b) same = ap (λ x. 60 ∷ 60 ∷ 10 ∷ (x ++ 62 ∷ 62 ∷ 10 ∷ [])) (numbered_alike (u ∷ v ∷ b) same)

  pub sheet_bytes_alike : (bs : List (List ℕ)) → ((u : ℕ) → InSome u bs → text u ≡ other u) → sheet_bytes text bs ≡ sheet_bytes other bs
  sheet_bytes_alike [] same = refl
  sheet_bytes_alike (b ∷ bs) same = ap₂ ◌++◌ (block_alike b (λ u i. same u (inl i))) (sheet_bytes_alike bs (λ u i. same u (inr i)))
