-- Of lines with distinct numbers, the order and the texts by number are those of the lines.
use Rattle.std.proofs.Common.{◌≡◌, ℕ, Bool, cond, List, [], ◌∷◌, sym, ap, ◌∙◌, subst, inl, inr}
use Rattle.std.proofs.lemmas.Bool.{eq-eqb, ne_eqb}
use Rattle.change.specs.Membership.{In}
use Rattle.change.specs.View.{cut}
use Rattle.order.proofs.Members.{mapped_in}
use Rattle.sheet.specs.declared.line.LineAt.{LineAt}
use Rattle.sheet.specs.Lines.{numbers, Distinct, of_line, before_in, text_in, Orders, Texts}

module _ {X : Type 0} (none : X) (part : LineAt → X) where
  part_of_line : (ls : List LineAt) → Distinct (numbers ls) → (a : LineAt) → In a ls → of_line none part ls a.number.0 ≡ part a
  part_of_line [] apart a i = elim i [ ]
  part_of_line (b ∷ ls) apart a (inl e) = ap (λ t. cond t (part b) (of_line none part ls a.number.0)) (eq-eqb b.number.0 a.number.0 (ap (λ c. c.number.0) (sym e))) ∙ ap part (sym e)
  part_of_line (b ∷ ls) apart a (inr i) =
      let other = ne_eqb b.number.0 a.number.0 (λ e. apart.0 (subst (λ u. In u (numbers ls)) (sym e) (mapped_in (λ c. c.number.0) a ls i))) in
      ap (λ t. cond t (part b) (of_line none part ls a.number.0)) other ∙ part_of_line ls apart.1 a i

module _ (ls : List LineAt) (apart : Distinct (numbers ls)) where
  pub lines_order : (R : ℕ → ℕ → Bool) → Orders R ls (before_in R ls)
  lines_order R a b i j = λ z. R (part_of_line 0 (λ c. c.slot) ls apart a i z) (part_of_line 0 (λ c. c.slot) ls apart b j z)

  pub lines_texts : (area : List ℕ) → Texts area ls (text_in area ls)
  lines_texts area a i = part_of_line [] (λ c. cut area c.text) ls apart a i
