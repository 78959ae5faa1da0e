-- Where only the start and the end have slots, the numbers agree with no puts.
-- OnlyEnds ns n: of n slots the first two are those of the start and the end, and the others are free.
-- Assumes nothing.
use Rattle.std.proofs.Common.{◌≡◌, ℕ, ◌<◌, ◌≤◌, Bool, List, [], length, get_or, set, replicate, sym, ap, ◌∙◌, inl, inr, arith}
use Rattle.std.proofs.lemmas.List.{get_or-set_same, get_or-set_other, get_or-replicate, length-set, length-replicate}
use Rattle.std.proofs.lemmas.Bool.{cases_eq, cases_lt}
use Rattle.order.specs.Table.{bef}
use Rattle.order.specs.Good.{On}
use Rattle.table.specs.Edits.{Same}
use Rattle.lines.specs.Numbers.{no_line, Used}
use Rattle.lines.specs.Lines.{Agrees}

pub record OnlyEnds (ns : List ℕ) (n : ℕ) : Type 0 where
  pub size : length ns ≡ n
  pub two : 2 ≤ n
  pub start : get_or ns 0 0 ≡ 0
  pub end : get_or ns 1 0 ≡ 1
  pub rest : (i : ℕ) → 2 ≤ i → i < n → get_or ns i 0 ≡ no_line

pub only_ends_written : (ns : List ℕ) (n : ℕ) → 2 ≤ n → ns ≡ replicate n no_line → OnlyEnds (set (set ns 0 0) 1 1) n
only_ends_written ns n two e =
    let size : length ns ≡ n = ap length e ∙ length-replicate n no_line in
    let size₁ = length-set ns 0 0 in
    record {
      size = length-set (set ns 0 0) 1 1 ∙ length-set ns 0 0 ∙ size;
      two = two;
      start = get_or-set_other (set ns 0 0) 1 0 1 0 (λ f. omega arith) ∙ get_or-set_same ns 0 0 0 (omega arith);
      end = get_or-set_same (set ns 0 0) 1 1 0 (omega arith);
      rest = λ i h k. get_or-set_other (set ns 0 0) 1 i 1 0 (λ f. omega arith) ∙ get_or-set_other ns 0 i 0 0 (λ f. omega arith) ∙ rw e (get_or-replicate n i no_line 0 k);
    }

module _ (R : ℕ → ℕ → Bool) (ns : List ℕ) (n : ℕ) (only : OnlyEnds ns n) (same : Same R (bef [])) where
  used_is : (i : ℕ) → Used ns i → (i < 2) × (get_or ns i 0 ≡ i)
  used_is i used =
      elim (cases_lt i 2) [
        | inl lt ↦ (lt, elim (cases_eq i 0) [ inl e ↦ rw e only.start | inr ne ↦ let e : i ≡ 1 = omega arith in rw e only.end ])
        | inr le ↦ absurd (used.1 (only.rest i le (omega arith)))
      ]

  low_is_on : (u : ℕ) → u < 2 → On [] u
  low_is_on u lt = elim (cases_eq u 0) [ inl e ↦ inl e | inr ne ↦ inr (inl (omega arith)) ]

  slots' : (u : ℕ) → On [] u → (i : ℕ) × Used ns i × (get_or ns i 0 ≡ u)
  slots' u (inl e) = (0, (omega arith, λ f. omega arith), only.start ∙ sym e)
  slots' u (inr (inl e)) = (1, (omega arith, λ f. omega arith), only.end ∙ sym e)
  slots' u (inr (inr (p, i, e))) = absurd i

  pub only_ends_agree : Agrees R ns []
  only_ends_agree = record {
    lines = λ i used. let (lt, e) = used_is i used in low_is_on (get_or ns i 0) (omega arith);
    slots = slots';
    once = λ i j used_i used_j e. omega (arith, used_is i used_i, used_is j used_j);
    order = λ i j used_i used_j. same i j ∙ sym (ap (λ k. bef [] k (get_or ns j 0)) (used_is i used_i).1 ∙ ap (bef [] i) (used_is j used_j).1);
  }
