-- How many slots are free: all but those of the start, the end and each line that was put.
-- Apart us: these numbers are all different. Fills ns us: the slots in use have these numbers, one to one. lines_of Q: the start, the end, and the lines of the puts Q.
-- Assumes nothing.
use Rattle.std.proofs.Common.{◌≡◌, ℕ, suc, ◌+◌, ◌≤◌, Bool, cond, eqb, List, [], ◌∷◌, map, length, get_or, set, sym, refl, ap, ◌∙◌, subst, inl, inr, arith}
use Rattle.std.proofs.lemmas.List.{get_or-set_same, get_or-set_other, length-set, length-map}
use Rattle.std.proofs.lemmas.List.Sums.{sum_by-set}
use Rattle.std.proofs.lemmas.Bool.Decides.{nat_tests}
use Rattle.change.specs.Membership.{In}
use Rattle.order.specs.Order.{Put}
use Rattle.order.specs.Good.{On, Good}
use Rattle.lines.specs.Numbers.{no_line, free_in, Used}
use Rattle.lines.specs.Lines.{Agrees}
use Rattle.lines.proofs.Counts.{all_free_count}

abbrev Apart : List ℕ → Type 0
Apart [] = Unit {0}
Apart (u ∷ us) = (In u us → ⊥) × Apart us

record Fills (ns us : List ℕ) : Type 0 where
  lines : (i : ℕ) → Used ns i → In (get_or ns i 0) us
  slots : (u : ℕ) → In u us → (i : ℕ) × Used ns i × (get_or ns i 0 ≡ u)
  once : (i j : ℕ) → Used ns i → Used ns j → get_or ns i 0 ≡ get_or ns j 0 → i ≡ j

one_more_free : (ns : List ℕ) (x : ℕ) → Used ns x → free_in (set ns x no_line) ≡ suc (free_in ns)
one_more_free ns x (within, used) = let counted = sum_by-set (λ n. cond (eqb n no_line) 1 0) ns x no_line 0 within in grind (arith, nat_tests, counted)

-- without the slot of the first number
module _ (ns us : List ℕ) (u x : ℕ) (fills : Fills ns (u ∷ us)) (not_again : In u us → ⊥) (used : Used ns x) (is : get_or ns x 0 ≡ u) where
  abbrev ns' : List ℕ
  ns' = set ns x no_line

  other : (i : ℕ) → Used ns' i → i ≡ x → ⊥
  other i used_i e = used_i.1 (ap (λ k. get_or ns' k 0) e ∙ get_or-set_same ns x no_line 0 used.0)

  was_used : (i : ℕ) → Used ns' i → (get_or ns' i 0 ≡ get_or ns i 0) × Used ns i
  was_used i used_i =
      let same = get_or-set_other ns x i no_line 0 (other i used_i) in
      (same, (omega (arith, length-set ns x no_line, used_i.0), λ e. used_i.1 (same ∙ e)))

  fills_rest : Fills ns' us
  fills_rest = record {
    lines = λ i used_i.
        let (same, was) = was_used i used_i in
        subst (λ n. In n us) (sym same) (elim (fills.lines i was) [ inl e ↦ absurd (other i used_i (fills.once i x was used (e ∙ sym is))) | inr rest ↦ rest ]);
    slots = λ v in_rest.
        let (i, used_i, e) = fills.slots v (inr in_rest) in
        let not_x : i ≡ x → ⊥ = λ f. not_again (subst (λ n. In n us) (sym e ∙ ap (λ k. get_or ns k 0) f ∙ is) in_rest) in
        let same = get_or-set_other ns x i no_line 0 not_x in
        (i, (omega (arith, length-set ns x no_line, used_i.0), λ f. used_i.1 (sym same ∙ f)), same ∙ e);
    once = λ i j used_i used_j e.
        let (same_i, was_i) = was_used i used_i in
        let (same_j, was_j) = was_used j used_j in
        fills.once i j was_i was_j (sym same_i ∙ e ∙ same_j);
  }

filled : (us ns : List ℕ) → Apart us → Fills ns us → free_in ns + length us ≡ length ns
filled [] ns apart fills = omega (arith, all_free_count ns (λ i within used. fills.lines i (within, used)))
filled (u ∷ us) ns (not_again, apart) fills =
    let (x, used, is) = fills.slots u (inl refl) in
    omega (arith, filled us (set ns x no_line) apart (fills_rest ns us u x fills not_again used is), one_more_free ns x used, length-set ns x no_line)

abbrev lines_of : List Put → List ℕ
lines_of Q = 0 ∷ 1 ∷ map (λ p. p.line) Q

put_of : (Q : List Put) (u : ℕ) → In u (map (λ p. p.line) Q) → (p : Put) × In p Q × (p.line ≡ u)
put_of [] u i = absurd i
put_of (p ∷ Q) u (inl e) = (p, inl refl, sym e)
put_of (p ∷ Q) u (inr i) = let (q, j, e) = put_of Q u i in (q, inr j, e)

line_of : (Q : List Put) (p : Put) (u : ℕ) → In p Q → p.line ≡ u → In u (map (λ q. q.line) Q)
line_of [] p u i e = i
line_of (q ∷ Q) p u (inl f) e = inl (sym e ∙ ap (λ r. r.line) f)
line_of (q ∷ Q) p u (inr i) e = inr (line_of Q p u i e)

on_in : (Q : List Put) (u : ℕ) → On Q u → In u (lines_of Q)
on_in Q u (inl e) = inl e
on_in Q u (inr (inl e)) = inr (inl e)
on_in Q u (inr (inr (p, i, e))) = inr (inr (line_of Q p u i e))

in_on : (Q : List Put) (u : ℕ) → In u (lines_of Q) → On Q u
in_on Q u (inl e) = inl e
in_on Q u (inr (inl e)) = inr (inl e)
in_on Q u (inr (inr i)) = inr (inr (put_of Q u i))

line_low : (Q : List Put) → Good Q → (u : ℕ) → In u (map (λ p. p.line) Q) → 2 ≤ u
line_low [] good u i = absurd i
line_low (p ∷ Q) (new, good) u (inl e) = omega (arith, new.low)
line_low (p ∷ Q) (new, good) u (inr i) = line_low Q good u i

puts_apart : (Q : List Put) → Good Q → Apart (map (λ p. p.line) Q)
puts_apart [] good = tt
puts_apart (p ∷ Q) (new, good) = (λ i. new.new (inr (inr (put_of Q p.line i))), puts_apart Q good)

lines_apart : (Q : List Put) → Good Q → Apart (lines_of Q)
lines_apart Q good = (
  λ i. elim i [ inl e ↦ omega arith | inr j ↦ omega (arith, line_low Q good 0 j) ],
  (λ i. omega (arith, line_low Q good 1 i), puts_apart Q good),
)

pub all_but_the_lines_are_free : (R : ℕ → ℕ → Bool) (ns : List ℕ) (Q : List Put) → Agrees R ns Q → Good Q → free_in ns + (2 + length Q) ≡ length ns
all_but_the_lines_are_free R ns Q agrees good =
    omega (
      arith,
      length-map Q (λ p. p.line),
      filled (lines_of Q) ns (lines_apart Q good) (record {
        lines = λ i used. on_in Q (get_or ns i 0) (agrees.lines i used);
        slots = λ u i. agrees.slots u (in_on Q u i);
        once = agrees.once;
      }),
    )
