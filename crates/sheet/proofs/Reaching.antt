-- How far a block reaches from a line: up to the last of those behind it that it doesn't stand before.
use Rattle.std.proofs.Common.{◌≡◌, ℕ, ◌+◌, ◌-◌, ◌<◌, Bool, true, false, List, length, Some, None, ap, ◌∙◌, subst, arith}
use Rattle.std.specs.List.{between}
use Rattle.std.proofs.lemmas.List.Edits.{length-between, get_or-between}
use Rattle.sheet.specs.declared.line.LineAt.{LineAt}
use Rattle.sheet.specs.Lines.{no_line}
use Rattle.sheet.specs.Ends.{slot_at, LastBeside, Reach}

module _ (R : ℕ → ℕ → Bool) (ws : List LineAt) (place : ℕ) (within : place < length ws) where
  abbrev slot : ℕ
  slot = slot_at ws place

  abbrev behind : List LineAt
  behind = between (place + 1) (length ws) ws

  long : length behind ≡ length ws - (place + 1)
  long = length-between ws (place + 1) (length ws) (omega arith)

  -- what holds of a line behind it, by its place in the walk
  told : (t : Bool) (k j : ℕ) → place + 1 + k ≡ j → j < length ws → R slot (slot_at behind k) ≡ t → R slot (slot_at ws j) ≡ t
  told t k j here less e =
      let inner : place + 1 + k < length ws = omega arith in
      subst (λ s. R slot s ≡ t) (ap (λ (a : LineAt). a.slot) (get_or-between ws (place + 1) (length ws) k no_line inner) ∙ ap (slot_at ws) here) e

  pub reaches_past : (last : ℕ) → LastBeside R slot behind (Some last) → Reach R ws place (place + last + 2)
  reaches_past last (inside, beside, before) = record {
    past = omega arith;
    within = omega (arith, long);
    above = λ j a b. told true (j - (place + 1)) j (omega arith) b (before (j - (place + 1)) (omega arith) (omega (arith, long)));
    last = λ _. told false last (place + last + 2 - 1) (omega arith) (omega (arith, long)) beside;
  }

  pub reaches_no_further : LastBeside R slot behind None → Reach R ws place (place + 1)
  reaches_no_further before = record {
    past = omega arith;
    within = omega arith;
    above = λ j a b. told true (j - (place + 1)) j (omega arith) b (before (j - (place + 1)) (omega (arith, long)));
    last = λ less. absurd (omega arith);
  }
