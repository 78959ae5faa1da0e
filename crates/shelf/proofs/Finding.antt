-- What the first place of a name among the changes tells of them.
-- Assumes nothing.
use Rattle.std.proofs.Common.{◌≡◌, ℕ, ◌<◌, List, map, reverse, length, get_or, is_some, Some, None, Option, sym, ap, ◌∙◌, inl, inr, arith}
use lib.ListN.{length-map}
use Rattle.std.proofs.lemmas.List.{get_or-map}
use Rattle.std.proofs.lemmas.Bool.{cases_Bool}
use Rattle.change.specs.Model.{Change}
use Rattle.order.specs.Names.{HasName, has_name}
use Rattle.order.proofs.Members.{in_get_or, in_at}
use Rattle.order.proofs.OneName.{has_name_lem}
use Rattle.store.specs.First.{FirstAt}
use Rattle.store.proofs.Places.{blank}
use Rattle.shelf.proofs.Reversed.{in_reverse, reverse_in}

module _ (cs : List Change) (n : ℕ) where
  pub found_has_the_name : (i : ℕ) → FirstAt (map (λ c. c.name) cs) n (Some i) → (i < length cs) × ((get_or cs i blank).name ≡ n)
  found_has_the_name i (within, same, _) =
      let less : i < length cs = omega (arith, length-map cs (λ c. c.name)) in
      (less, sym (get_or-map (λ c. c.name) cs i blank 0 less) ∙ same)

  pub none_has_the_name : FirstAt (map (λ c. c.name) cs) n None → HasName (reverse cs) n → ⊥
  none_has_the_name none (d, i, e) =
      let (k, less, at) = in_at blank d cs (in_reverse cs d i) in
      none k (omega (arith, length-map cs (λ c. c.name))) (get_or-map (λ c. c.name) cs k blank 0 less ∙ ap (λ c. c.name) at ∙ e)

  pub found_tells_has : (r : Option ℕ) → FirstAt (map (λ c. c.name) cs) n r → is_some r ≡ has_name (reverse cs) n
  found_tells_has (Some i) first =
      let (less, e) = found_has_the_name i first in
      sym ((has_name_lem (reverse cs) n).1 (get_or cs i blank, reverse_in cs _ (in_get_or cs i blank less), e))
  found_tells_has None first =
      elim (cases_Bool (has_name (reverse cs) n)) [ inl e ↦ absurd (none_has_the_name first ((has_name_lem (reverse cs) n).0 e)) | inr e ↦ sym e ]
