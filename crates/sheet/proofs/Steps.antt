-- One step of the walk: it goes to the lowest free number, and ends where none is free.
use Rattle.std.proofs.Common.{◌≡◌, ℕ, ◌≤◌, Bool, true, cond, leb, List, [], ◌∷◌, filter, sym, refl, ap, inl, inr, arith}
use Rattle.std.proofs.lemmas.Bool.Decides.{nat_tests}
use Rattle.change.specs.Membership.{In}
use Rattle.order.proofs.Members.{kept_from, kept_has}
use Rattle.blocks.specs.Function.{free, lowest, without, go_on}

lowest_is : (m u : ℕ) (us : List ℕ) → In m (u ∷ us) → ((v : ℕ) → In v (u ∷ us) → m ≤ v) → lowest u us ≡ m
lowest_is m u [] (inl e) low = sym e
lowest_is m u [] (inr i) low = elim i [ ]
lowest_is m u (v ∷ us) i low = lowest_is m w us (in_w i) low_w
  where
    w : ℕ
    w = cond (leb u v) u v

    low_u : m ≤ u
    low_u = low u (inl refl)

    low_v : m ≤ v
    low_v = low v (inr (inl refl))

    in_w : In m (u ∷ v ∷ us) → In m (w ∷ us)
    in_w (inl e) = inl (let a = low_v in grind (arith, nat_tests))
    in_w (inr (inl e)) = inl (let a = low_u in grind (arith, nat_tests))
    in_w (inr (inr j)) = inr j

    low_w : (x : ℕ) → In x (w ∷ us) → m ≤ x
    low_w x (inl e) = let a = low_u in let b = low_v in grind (arith, nat_tests)
    low_w x (inr j) = low x (inr (inr j))

module _ (before : ℕ → ℕ → Bool) (next : List ℕ → List ℕ) (us : List ℕ) where
  pub goes_to_lowest :
      (m : ℕ) → In m us → free before us m ≡ true → ((v : ℕ) → In v us → free before us v ≡ true → m ≤ v) →
      go_on next us (filter (free before us) us) ≡ m ∷ next (without m us)
  goes_to_lowest m i f low =
      go (filter (free before us) us) (kept_has (free before us) us m i f) (λ v j. let (k, g) = kept_from (free before us) us v j in low v k g)
    where
      go : (fs : List ℕ) → In m fs → ((v : ℕ) → In v fs → m ≤ v) → go_on next us fs ≡ m ∷ next (without m us)
      go [] i low = elim i [ ]
      go (v ∷ fs) i low = ap (λ x. x ∷ next (without x us)) (lowest_is m v fs i low)

  pub ends_where_none_is_free : ((v : ℕ) → In v us → free before us v ≡ true → ⊥) → go_on next us (filter (free before us) us) ≡ []
  ends_where_none_is_free none = go (filter (free before us) us) (λ v j. let (k, g) = kept_from (free before us) us v j in none v k g)
    where
      go : (fs : List ℕ) → ((v : ℕ) → In v fs → ⊥) → go_on next us fs ≡ []
      go [] none = refl
      go (v ∷ fs) none = absurd (none v (inl refl))
