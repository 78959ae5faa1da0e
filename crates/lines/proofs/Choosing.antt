-- Finding lines where some free slots are chosen for new ones.
-- Assumes nothing.
use Rattle.std.proofs.Common.{◌≡◌, ℕ, ◌+◌, ◌<◌, ◌≤◌, List, length, get_or, Some, None, Option, sym, ap, ◌∙◌, inl, inr, arith}
use Rattle.lines.specs.Numbers.{no_line, Used, Finds, AllBefore, Chosen, marked}
use Rattle.lines.specs.Puts.{Given}
use Rattle.lines.proofs.Marks.{Among, among_or_not, number_elsewhere, number_of_marked, length_marked}

module _ {ns slots : List ℕ} (chosen : Chosen ns slots) (first : ℕ) where
  used_not_among : (i : ℕ) → Used ns i → Among slots i → ⊥
  used_not_among i used (k, h, e) = used.1 (ap (λ j. get_or ns j 0) (sym e) ∙ (chosen.free k h).1)

  pub used_keeps_number : (i : ℕ) → Used ns i → get_or (marked ns first slots) i 0 ≡ get_or ns i 0
  used_keeps_number i used = number_elsewhere ns slots first i (used_not_among i used)

  pub number_of_chosen : (k : ℕ) → k < length slots → get_or (marked ns first slots) (get_or slots k 0) 0 ≡ first + k
  number_of_chosen k h = number_of_marked ns slots first k h (λ j l. (chosen.free j l).0) chosen.once

  pub later_stays_free : (from x : ℕ) → AllBefore slots from → from ≤ x → get_or ns x 0 ≡ no_line → get_or (marked ns first slots) x 0 ≡ no_line
  later_stays_free from x before h e = number_elsewhere ns slots first x (λ (k, l, f). omega (arith, before k l)) ∙ e

  module _ (above : no_line < first) where
    pub finds_chosen : (u k : ℕ) → k < length slots → u ≡ first + k → Finds (marked ns first slots) u (Some (get_or slots k 0))
    finds_chosen u k h e =
        let number = number_of_chosen k h in
        ((omega (arith, length_marked ns slots first, (chosen.free k h).0), λ f. omega arith), number ∙ sym e)

    -- a line that no slot is chosen for is found where it was
    pub finds_others : (u : ℕ) (r : Option ℕ) → (Given first (length slots) u → ⊥) → Finds ns u r → Finds (marked ns first slots) u r
    finds_others u None other none =
        λ i used e. elim (among_or_not slots i) [
          | inl (k, h, f) ↦ other (omega (arith, number_of_chosen k h, ap (λ j. get_or (marked ns first slots) j 0) f))
          | inr not ↦
              let same = number_elsewhere ns slots first i not in
              none i (omega (arith, length_marked ns slots first, used.0), λ f. used.1 (same ∙ f)) (sym same ∙ e)
        ]
    finds_others u (Some i) other (used, e) =
        let same = used_keeps_number i used in
        ((omega (arith, length_marked ns slots first, used.0), λ f. used.1 (sym same ∙ f)), same ∙ e)
