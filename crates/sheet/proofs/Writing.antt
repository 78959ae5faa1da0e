-- A sheet while it is written: the bytes of the blocks so far, and the walk from where the next block begins.
-- Writing R area ws start out: with the bytes of the blocks from `start` on, `out` is all that is shown of the walk ws.
use Rattle.std.proofs.Common.{◌≡◌, ℕ, ◌+◌, ◌-◌, ◌≤◌, Bool, List, [], ◌++◌, length, take, drop, sym, ap, ◌∙◌, append_assoc, append-nil, arith}
use Rattle.std.specs.List.{between}
use Rattle.std.proofs.lemmas.List.{drop_all, length-map, take-map, drop-map}
use Rattle.change.specs.Membership.{Within}
use Rattle.blocks.specs.Function.{walk, cut_all, blocks_of}
use Rattle.blocks.specs.Bytes.{block_bytes, sheet_bytes}
use Rattle.sheet.specs.declared.line.LineAt.{LineAt}
use Rattle.sheet.specs.Lines.{numbers, Orders, Texts}
use Rattle.sheet.specs.Ends.{BlockEnd}
use Rattle.sheet.proofs.Members.{in_between}
use Rattle.sheet.proofs.Cutting.{block_cut}

pub record Writing (R : ℕ → ℕ → Bool) (area : List ℕ) (ws : List LineAt) (start : ℕ) (out : List ℕ) : Type 0 where
  pub within : start ≤ length ws
  pub writes : (before : ℕ → ℕ → Bool) (text : ℕ → List ℕ) → Orders R ws before → Texts area ws text →
      out ++ sheet_bytes text (cut_all before (drop start (numbers ws))) ≡ sheet_bytes text (cut_all before (numbers ws))

module _ (R : ℕ → ℕ → Bool) (area : List ℕ) (ws : List LineAt) where
  pub none_written : (out : List ℕ) → out ≡ [] → Writing R area ws 0 out
  none_written out e = record { within = omega arith; writes = λ before text orders texts. ap (λ l. l ++ sheet_bytes text (cut_all before (numbers ws))) e }

  module _ (start : ℕ) (out : List ℕ) (writing : Writing R area ws start out) where
    pub block_written :
        (r : ℕ) (more : List ℕ) → BlockEnd R ws start (start + 1) r →
        ((text : ℕ → List ℕ) → Texts area (between start r ws) text → more ≡ out ++ block_bytes text (numbers (between start r ws))) →
        Writing R area ws r more
    block_written r more end written =
        record {
          within = end.within;
          writes = λ before text orders texts.
              let us = numbers ws in
              let rest = sheet_bytes text (cut_all before (drop r us)) in
              let part : numbers (between start r ws) ≡ between start r us = sym (take-map (λ a. a.number.0) (r - start) (drop start ws)) ∙ ap (take (r - start)) (sym (drop-map (λ a. a.number.0) start ws)) in
              (λ i. written text (λ a j. texts a (in_between a start r ws j)) i ++ rest)
              ∙ append_assoc out (block_bytes text (numbers (between start r ws))) rest
              ∙ ap (λ b. out ++ (block_bytes text b ++ rest)) part
              ∙ ap (λ bs. out ++ sheet_bytes text bs) (sym (block_cut R before ws orders start r end))
              ∙ writing.writes before text orders texts;
        }

    pub all_written : length ws ≤ start → (before : ℕ → ℕ → Bool) (text : ℕ → List ℕ) → Orders R ws before → Texts area ws text → out ≡ sheet_bytes text (cut_all before (numbers ws))
    all_written end before text orders texts =
        sym (append-nil out)
        ∙ ap (λ us. out ++ sheet_bytes text (cut_all before us)) (sym (drop_all start (numbers ws) (omega (arith, length-map ws (λ a. a.number.0)))))
        ∙ writing.writes before text orders texts

-- what is written of the walk through some lines is what is shown of these
pub lines_shown :
    (R : ℕ → ℕ → Bool) (area : List ℕ) (ls ws : List LineAt) (start : ℕ) (out : List ℕ) → Writing R area ws start out → length ws ≤ start → Within ws ls →
    ((before : ℕ → ℕ → Bool) → Orders R ls before → numbers ws ≡ walk before (length ls) (numbers ls)) →
    (before : ℕ → ℕ → Bool) (text : ℕ → List ℕ) → Orders R ls before → Texts area ls text → out ≡ sheet_bytes text (blocks_of before (numbers ls))
lines_shown R area ls ws start out writing end within walked before text orders texts =
    all_written R area ws start out writing end before text (λ a b i j. orders a b (within a i) (within b j)) (λ a i. texts a (within a i))
    ∙ ap (λ us. sheet_bytes text (cut_all before us)) (walked before orders)
    ∙ ap (λ n. sheet_bytes text (cut_all before (walk before n (numbers ls)))) (sym (length-map ls (λ a. a.number.0)))
