-- What numbers and an order of slots tell of the puts that they agree with.
-- Assumes nothing.
use Rattle.std.proofs.Common.{◌≡◌, ℕ, Bool, false, eqb, List, get_or, is_some, Some, None, Decides, Option, sym, refl, ap, ◌∙◌, subst, inl, inr}
use Rattle.std.proofs.lemmas.Bool.{cases_Bool, cases_eq, eq-eqb, ne_eqb, false≢true}
use Rattle.order.specs.Order.{Put}
use Rattle.order.specs.Table.{bef}
use Rattle.order.specs.Good.{On, Good}
use Rattle.order.proofs.Steps.{bef_stands}
use Rattle.order.proofs.Stands.{laws}
use Rattle.lines.specs.Numbers.{Used, Finds}
use Rattle.lines.specs.Lines.{Agrees}

-- What isn't a line stands before none, and none before it.
pub none_before_absent : (Q : List Put) (u v : ℕ) → Good Q → (On Q v → ⊥) → bef Q u v ≡ false
none_before_absent Q u v g absent =
    elim (cases_Bool (bef Q u v)) [ inl e ↦ absurd (absent ((laws Q g).ends u v (bef_stands Q u v e)).1) | inr e ↦ e ]

pub absent_before_none : (Q : List Put) (u v : ℕ) → Good Q → (On Q u → ⊥) → bef Q u v ≡ false
absent_before_none Q u v g absent =
    elim (cases_Bool (bef Q u v)) [ inl e ↦ absurd (absent ((laws Q g).ends u v (bef_stands Q u v e)).0) | inr e ↦ e ]

module _ {R : ℕ → ℕ → Bool} {ns : List ℕ} {Q : List Put} (agrees : Agrees R ns Q) where
  pub found_is_on : (u i : ℕ) → Finds ns u (Some i) → On Q u
  found_is_on u i (used, e) = subst (On Q) e (agrees.lines i used)

  pub not_found_is_absent : (u : ℕ) → Finds ns u None → On Q u → ⊥
  not_found_is_absent u none on = let (i, used, e) = agrees.slots u on in none i used e

  pub finding_decides : (u : ℕ) (r : Option ℕ) → Finds ns u r → Decides (is_some r) (On Q u)
  finding_decides u None none = (λ e. absurd (false≢true e), λ on. absurd (not_found_is_absent u none on))
  finding_decides u (Some i) found = (λ _. found_is_on u i found, λ _. refl)

  pub order_of_found : (u v i j : ℕ) → Finds ns u (Some i) → Finds ns v (Some j) → R i j ≡ bef Q u v
  order_of_found u v i j (used_i, e) (used_j, f) = rw (← e, ← f) (agrees.order i j used_i used_j)

  pub same_slot_same_line : (i j : ℕ) → Used ns i → Used ns j → eqb i j ≡ eqb (get_or ns i 0) (get_or ns j 0)
  same_slot_same_line i j used_i used_j =
      elim (cases_eq i j) [
        | inl e ↦ eq-eqb i j e ∙ sym (eq-eqb _ _ (ap (λ k. get_or ns k 0) e))
        | inr ne ↦ ne_eqb i j ne ∙ sym (ne_eqb _ _ (λ e. ne (agrees.once i j used_i used_j e)))
      ]
