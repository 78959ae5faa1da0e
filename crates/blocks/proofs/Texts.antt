-- The text of a line is that of its add, and depends on the set of changes alone.
-- Assumes nothing.
use Rattle.std.proofs.Common.{◌≡◌, ℕ, ◌%◌, ◌<◌, eqb, List, [], ◌∷◌, ◌++◌, length, sym, refl, ap, ◌∙◌, ap₂, inl, inr, arith, length-append}
use mathlib.Core.Path.{fun_ext}
use Rattle.std.proofs.lemmas.Bool.{cond-true, cond-false, eq-eqb, ne_eqb}
use Rattle.change.specs.Membership.{In, SameMembers}
use Rattle.change.specs.Model.{Add, Change, line_of, bringer}
use Rattle.change.proofs.Limits.{adds_most}
use Rattle.order.specs.Names.{HasName}
use Rattle.order.specs.Fits.{Listed}
use Rattle.order.proofs.Deciding.{choice}
use Rattle.order.proofs.Placed.{listed_formed}
use Rattle.order.proofs.OneName.{has_name_lem}
use Rattle.blocks.specs.Sheet.{text_at, text_of}
use Rattle.blocks.specs.Theorems.{TextOfAdd}

module _ (u : ℕ) where
  pub text_of_named : (L : List Change) → Listed L → (c : Change) → In c L → c.name ≡ bringer u → text_of L u ≡ text_at c.adds (u % 64)
  text_of_named [] h c i e = absurd i
  text_of_named (d ∷ L) h c (inl p) e =
      cond-true (eqb d.name (bringer u)) (text_at d.adds (u % 64)) (text_of L u) (eq-eqb d.name (bringer u) (sym (ap (λ x. x.name) p) ∙ e))
      ∙ ap (λ x. text_at x.adds (u % 64)) (sym p)
  text_of_named (d ∷ L) h c (inr i) e =
      cond-false (eqb d.name (bringer u)) (text_at d.adds (u % 64)) (text_of L u) (ne_eqb d.name (bringer u) (λ q. h.0.new c i (e ∙ sym q)))
      ∙ text_of_named L h.1 c i e

  no_text : (L : List Change) → (HasName L (bringer u) → ⊥) → text_of L u ≡ []
  no_text [] none = refl
  no_text (d ∷ L) none =
      cond-false (eqb d.name (bringer u)) (text_at d.adds (u % 64)) (text_of L u) (ne_eqb d.name (bringer u) (λ e. none (d, inl refl, e)))
      ∙ no_text L (λ (c, i, e). none (c, inr i, e))

pub texts_alike : (L M : List Change) → Listed L → Listed M → SameMembers L M → text_of L ≡ text_of M
texts_alike L M h k m = fun_ext (λ u. go u (choice _ (has_name_lem L (bringer u))))
  where
    go : (u : ℕ) → Dec (HasName L (bringer u)) → text_of L u ≡ text_of M u
    go u (yes (c, i, e)) = text_of_named u L h c i e ∙ sym (text_of_named u M k c (m.0 c i) e)
    go u (no none) = no_text u L none ∙ sym (no_text u M (λ (c, i, e). none (c, m.1 c i, e)))

text_at_lem : (front : List Add) (a : Add) (back : List Add) → text_at (front ++ a ∷ back) (length front) ≡ a.text
text_at_lem [] a back = refl
text_at_lem (x ∷ front) a back = text_at_lem front a back

pub text_of_add : TextOfAdd
text_of_add L h c i front a back e =
    let u = line_of c.name (length front) in
    let few : length front < 64 = omega (arith, adds_most c (listed_formed L h c i), ap length e, length-append front (a ∷ back)) in
    let place : u % 64 ≡ length front = omega arith in
    text_of_named u L h c i (omega arith) ∙ ap₂ text_at e place ∙ text_at_lem front a back
