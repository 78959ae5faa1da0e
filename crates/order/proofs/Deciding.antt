-- Tests that decide: of each member of a list, and of some member; and what a test that decides says as a choice.
-- Assumes nothing.
use Rattle.std.proofs.Common.{◌≡◌, Bool, true, false, ◌⊎◌, List, [], ◌∷◌, Decides, sym, refl, subst, inl, inr, ⊎_elim}
use Rattle.std.proofs.lemmas.Bool.{false≢true}
use Rattle.std.proofs.lemmas.Bool.Decides.{not_from_Decides, Decides-like, Decides-and, Decides-or}
use Rattle.std.specs.List.{list_all, list_any}
use Rattle.change.specs.Membership.{In}

pub choice : {P : Type 0} (r : Bool) → Decides r P → Dec P
choice true d = yes (d.0 refl)
choice false d = no (not_from_Decides false d refl)

-- a test decides that it passes
pub decides_itself : (r : Bool) → Decides r (r ≡ true)
decides_itself r = (λ e. e, λ e. e)

module _ {X : Type 0} (test : X → Bool) (P : X → Type 0) (each : (x : X) → Decides (test x) (P x)) where
  pub decides_every : (xs : List X) → Decides (list_all test xs) ((x : X) → In x xs → P x)
  decides_every [] = (λ _ x i. absurd i, λ _. refl)
  decides_every (y ∷ xs) =
      Decides-like _ (λ h x. ⊎_elim (λ e. subst P (sym e) h.0) (h.1 x)) (λ h. (h y (inl refl), λ x i. h x (inr i)))
      (Decides-and (test y) (list_all test xs) (each y) (decides_every xs))

  pub decides_some : (xs : List X) → Decides (list_any test xs) ((x : X) × In x xs × P x)
  decides_some [] = (λ e. absurd (false≢true e), λ h. absurd h.1)
  decides_some (y ∷ xs) = Decides-like _ to from (Decides-or (test y) (list_any test xs) (each y) (decides_some xs))
    where
      to : P y ⊎ ((x : X) × In x xs × P x) → (x : X) × In x (y ∷ xs) × P x
      to (inl p) = (y, inl refl, p)
      to (inr (x, i, p)) = (x, inr i, p)

      from : (x : X) × In x (y ∷ xs) × P x → P y ⊎ ((x : X) × In x xs × P x)
      from (x, inl e, p) = inl (subst P e p)
      from (x, inr i, p) = inr (x, i, p)
