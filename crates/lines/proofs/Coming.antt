-- One line more: a free slot put between two slots in use is a line put between their lines.
-- Assumes nothing.
use Rattle.std.proofs.Common.{◌≡◌, ℕ, ◌<◌, Bool, ◌⊎◌, List, ◌∷◌, length, get_or, set, Some, sym, ap, ◌∙◌, subst, inl, inr, arith}
use Rattle.std.proofs.lemmas.List.{get_or-set_same, get_or-set_other, length-set}
use Rattle.std.proofs.lemmas.Bool.{cases_eq}
use Rattle.std.proofs.lemmas.Bool.Decides.{nat_tests}
use Rattle.order.specs.Order.{Put}
use Rattle.order.specs.Table.{step, bef}
use Rattle.order.specs.Good.{On}
use Rattle.order.proofs.Stands.{on_new, on_old, on_cases}
use Rattle.table.specs.Edits.{Same}
use Rattle.table.specs.Puts.{put_of}
use Rattle.lines.specs.Numbers.{no_line, Used, Finds}
use Rattle.lines.specs.Lines.{Agrees}
use Rattle.lines.proofs.Agreeing.{same_slot_same_line}

module _ (R R' : ℕ → ℕ → Bool) (ns : List ℕ) (Q : List Put) (x a b : ℕ) (p : Put)
    (agrees : Agrees R ns Q) (within : x < length ns) (is_free : get_or ns x 0 ≡ no_line)
    (above : p.line ≡ no_line → ⊥) (new : On Q p.line → ⊥)
    (first : Finds ns p.after (Some a)) (second : Finds ns p.before (Some b)) (stepped : Same R' (step R (put_of x a b))) where
  ns' : List ℕ
  ns' = set ns x p.line

  at_new : get_or ns' x 0 ≡ p.line
  unfolding ns'
  at_new = get_or-set_same ns x p.line 0 within

  at_other : (i : ℕ) → (i ≡ x → ⊥) → get_or ns' i 0 ≡ get_or ns i 0
  unfolding ns'
  at_other i ne = get_or-set_other ns x i p.line 0 ne

  new_used : Used ns' x
  unfolding ns'
  new_used = (rw length-set within, λ e. above (sym at_new ∙ e))

  other : (i : ℕ) → Used ns i → (i ≡ x) → ⊥
  other i used e = used.1 (ap (λ k. get_or ns k 0) e ∙ is_free)

  still_used : (i : ℕ) → Used ns i → Used ns' i
  unfolding ns'
  still_used i used = (rw length-set used.0, λ e. used.1 (sym (at_other i (other i used)) ∙ e))

  -- a slot in use is the new one, or was in use
  abbrev Was : ℕ → Type 0
  Was i = Used ns i × (get_or ns' i 0 ≡ get_or ns i 0)

  cases : (i : ℕ) → Used ns' i → (i ≡ x) ⊎ Was i
  unfolding ns'
  cases i used =
      elim (cases_eq i x) [
        | inl e ↦ inl e
        | inr ne ↦ inr ((rw length-set at used.0, λ e. used.1 (at_other i ne ∙ e)), at_other i ne)
      ]

  number_of_new : (i : ℕ) → i ≡ x → get_or ns' i 0 ≡ p.line
  number_of_new i e = ap (λ k. get_or ns' k 0) e ∙ at_new

  not_new : (i : ℕ) → Was i → get_or ns' i 0 ≡ p.line → ⊥
  not_new i (used, same) e = new (subst (On Q) (sym same ∙ e) (agrees.lines i used))

  lines' : (i : ℕ) → (i ≡ x) ⊎ Was i → On (p ∷ Q) (get_or ns' i 0)
  lines' i (inl e) = subst (On (p ∷ Q)) (sym (number_of_new i e)) (on_new p Q)
  lines' i (inr (used, same)) = subst (On (p ∷ Q)) (sym same) (on_old p Q _ (agrees.lines i used))

  slots' : (u : ℕ) → (u ≡ p.line) ⊎ On Q u → (i : ℕ) × Used ns' i × (get_or ns' i 0 ≡ u)
  slots' u (inl e) = (x, new_used, at_new ∙ sym e)
  slots' u (inr on) = let (i, used, e) = agrees.slots u on in (i, still_used i used, at_other i (other i used) ∙ e)

  once' : (i j : ℕ) → (i ≡ x) ⊎ Was i → (j ≡ x) ⊎ Was j → get_or ns' i 0 ≡ get_or ns' j 0 → i ≡ j
  once' i j (inl e) (inl f) g = e ∙ sym f
  once' i j (inl e) (inr w) g = absurd (not_new j w (sym g ∙ number_of_new i e))
  once' i j (inr w) (inl f) g = absurd (not_new i w (g ∙ number_of_new j f))
  once' i j (inr w) (inr v) g = agrees.once i j w.0 v.0 (sym w.1 ∙ g ∙ v.1)

  order' : (i j : ℕ) → (i ≡ x) ⊎ Was i → (j ≡ x) ⊎ Was j → step R (put_of x a b) i j ≡ bef (p ∷ Q) (get_or ns' i 0) (get_or ns' j 0)
  order' i j (inl e) (inl f) = grind (arith, nat_tests, number_of_new i e, number_of_new j f)
  order' i j (inl e) (inr w) =
      let ne = other j w.0 in
      let nn = not_new j w in
      grind (arith, nat_tests, number_of_new i e, w.1, same_slot_same_line agrees j b w.0 second.0, agrees.order b j second.0 w.0, second.1)
  order' i j (inr w) (inl f) =
      let ne = other i w.0 in
      let nn = not_new i w in
      grind (arith, nat_tests, number_of_new j f, w.1, same_slot_same_line agrees i a w.0 first.0, agrees.order i a w.0 first.0, first.1)
  order' i j (inr w) (inr v) =
      let ne = other i w.0 in
      let nf = other j v.0 in
      let nn = not_new i w in
      let nm = not_new j v in
      grind (arith, nat_tests, w.1, v.1, agrees.order i j w.0 v.0)

  pub agrees_with_one_more : Agrees R' (set ns x p.line) (p ∷ Q)
  unfolding ns'
  agrees_with_one_more = record {
    lines = λ i used. lines' i (cases i used);
    slots = λ u on. slots' u (on_cases p Q u on);
    once = λ i j used_i used_j. once' i j (cases i used_i) (cases j used_j);
    order = λ i j used_i used_j. stepped i j ∙ order' i j (cases i used_i) (cases j used_j);
  }
