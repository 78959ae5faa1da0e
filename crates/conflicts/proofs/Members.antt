-- Lines looked up by their numbers, and numbers by their lines.
-- Assumes nothing.
use Rattle.std.proofs.Common.{◌≡◌, ℕ, Bool, true, false, ◌||◌, eqb, List, [], ◌∷◌, Decides, sym, refl, ◌∙◌, inl, inr}
use Rattle.std.specs.List.{list_all}
use Rattle.std.proofs.lemmas.Bool.{eq-eqb, eqb-true}
use Rattle.std.proofs.lemmas.Bool.Decides.{Decides-like}
use Rattle.change.specs.Membership.{In, Within}
use Rattle.order.proofs.Deciding.{decides_every}
use Rattle.order.proofs.Members.{in_mapped, mapped_in}
use Rattle.verdict.specs.FromNeeds.{is_among}
use Rattle.verdict.proofs.FromNeeds.{decides_among}
use Rattle.sheet.specs.declared.line.LineAt.{LineAt}
use Rattle.sheet.specs.Lines.{numbers}
use Rattle.conflicts.specs.Block.{has_line}

pub decides_has_line : (ls : List LineAt) (u : ℕ) → Decides (has_line ls u) (In u (numbers ls))
decides_has_line [] u = (λ (e : false ≡ true). (cc), λ i. absurd i)
decides_has_line (a ∷ ls) u = go (eqb a.number.0 u) refl (decides_has_line ls u)
  where
    go : (b : Bool) → eqb a.number.0 u ≡ b → Decides (has_line ls u) (In u (numbers ls)) → Decides (b || has_line ls u) (In u (numbers (a ∷ ls)))
    go true e rest = (λ _. inl (sym (eqb-true _ u e)), λ _. refl)
    go false e rest = (λ h. inr (rest.0 h), λ i. elim i [ inl same ↦ let both : true ≡ false = sym (eq-eqb a.number.0 u (sym same)) ∙ e in cc | inr j ↦ rest.1 j ])

pub decides_have_lines : (us : List ℕ) (ls : List LineAt) → Decides (list_all (has_line ls) us) (Within us (numbers ls))
decides_have_lines us ls = decides_every (has_line ls) (λ u. In u (numbers ls)) (decides_has_line ls) us

pub decides_numbered : (ls : List LineAt) (us : List ℕ) → Decides (list_all (λ a. is_among a.number.0 us) ls) (Within (numbers ls) us)
decides_numbered ls us =
    Decides-like _ (λ all u i. let (a, j, e) = in_mapped (λ b. b.number.0) u ls i in rw e (all a j)) (λ within a j. within a.number.0 (mapped_in (λ b. b.number.0) a ls j))
    (decides_every (λ a. is_among a.number.0 us) (λ a. In a.number.0 us) (λ a. decides_among a.number.0 us) ls)
