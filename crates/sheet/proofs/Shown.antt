-- The bytes written for a block are those in which it is shown.
use Rattle.std.proofs.Common.{◌≡◌, ℕ, ◌<◌, ◌≤◌, List, [], ◌∷◌, ◌++◌, length, get_or, decimal, sym, refl, ap, ◌∙◌, inl, inr, append_assoc, arith}
use Rattle.std.specs.List.{flat_map}
use Rattle.change.specs.View.{cut}
use Rattle.blocks.specs.Bytes.{numbered, block_bytes}
use Rattle.sheet.specs.declared.line.LineAt.{LineAt}
use Rattle.sheet.specs.Lines.{numbers, no_line, Texts}
use Rattle.sheet.specs.Shown.{text_line, numbered_line, marked}

module _ (area : List ℕ) (text : ℕ → List ℕ) where
  numbered_lines : (ls : List LineAt) → Texts area ls text → flat_map (numbered_line area) ls ≡ numbered text (numbers ls)
  numbered_lines [] texts = refl
  numbered_lines (a ∷ ls) texts =
      let rest = flat_map (numbered_line area) ls in
      append_assoc (decimal a.number.0) (32 ∷ text_line area a.text) rest
      ∙ ap (λ l. decimal a.number.0 ++ 32 ∷ l) (append_assoc (cut area a.text) (10 ∷ []) rest)
      ∙ (λ i. decimal a.number.0 ++ 32 ∷ (sym (texts a (inl refl)) i ++ 10 ∷ numbered_lines ls (λ b j. texts b (inr j)) i))

  pub none_shown : (ls : List LineAt) → length ls < 1 → [] ≡ block_bytes text (numbers ls)
  none_shown [] short = refl
  none_shown (a ∷ ls) short = absurd (omega arith)

  pub alone_shown : (ls : List LineAt) → length ls ≡ 1 → Texts area ls text → text_line area (get_or ls 0 no_line).text ≡ block_bytes text (numbers ls)
  alone_shown [] one texts = absurd (omega arith)
  alone_shown (a ∷ []) one texts = ap (λ t. t ++ 10 ∷ []) (sym (texts a (inl refl)))
  alone_shown (a ∷ b ∷ ls) one texts = absurd (omega arith)

  pub conflict_shown : (ls : List LineAt) → 2 ≤ length ls → Texts area ls text → marked (flat_map (numbered_line area) ls) ≡ block_bytes text (numbers ls)
  conflict_shown [] more texts = absurd (omega arith)
  conflict_shown (a ∷ []) more texts = absurd (omega arith)
  conflict_shown (a ∷ b ∷ ls) more texts = ap marked (numbered_lines (a ∷ b ∷ ls) texts)
