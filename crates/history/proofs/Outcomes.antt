-- What an outcome says of the tests that led to it.
-- Goes o: o is no refusal.
-- Assumes nothing.
use Rattle.std.proofs.Common.{◌≡◌, ℕ, Bool, true, false, ◌⊎◌, sym, refl, ◌∙◌, inl, inr, arith}
use Rattle.change.specs.declared.refusal.Refusal.{Refusal}
use Rattle.change.specs.declared.refusal.Refusal.TheVariants.{Unrelated, Unordered, Full}
use Rattle.change.specs.Model.{Change}
use Rattle.verdict.specs.Verdict.{is_related, is_ordered}
use Rattle.history.specs.declared.Outcome.{Outcome}
use Rattle.history.specs.declared.Outcome.TheVariants.{Taken, Waits, Refused}
use Rattle.history.specs.Book.{Book, has_room}
use Rattle.history.specs.Taking.{provided, admitted}
use Rattle.history.specs.Theorems.{TurnedAway}

abbrev pub Goes : Outcome → Type 0
Goes o = (r : Refusal) → Refused r ≡ o → ⊥

pub taken_goes : Goes Taken
taken_goes r e = let z : ◌≡◌ {A = ℕ} 0 1 = cc in omega arith

pub waits_goes : Goes Waits
waits_goes r e = let z : ◌≡◌ {A = ℕ} 0 1 = cc in omega arith

pub waits_or_taken : Waits ≡ Taken → ⊥
waits_or_taken e = let z : ◌≡◌ {A = ℕ} 0 1 = cc in omega arith

pub provided_passes : (test : Bool) (r : Refusal) (o g : Outcome) → Goes g → provided test r o ≡ g → (test ≡ true) × (o ≡ g)
provided_passes true r o g goes e = (refl, e)
provided_passes false r o g goes e = absurd (goes r e)

pub provided_from : (test : Bool) (r : Refusal) (o : Outcome) → test ≡ true → provided test r o ≡ o
provided_from test r o e = rw e

module _ (B : Book) (c : Change) where
  pub admitted_passes : admitted B c ≡ Taken → (is_related B.changes c ≡ true) × (is_ordered B.changes c ≡ true) × (has_room B c ≡ true)
  admitted_passes e =
      let (related, e₁) = provided_passes (is_related B.changes c) _ _ Taken taken_goes e in
      let (ordered, e₂) = provided_passes (is_ordered B.changes c) _ _ Taken taken_goes e₁ in
      let (room, _) = provided_passes (has_room B c) _ _ Taken taken_goes e₂ in
      (related, ordered, room)

  pub admitted_from : is_related B.changes c ≡ true → is_ordered B.changes c ≡ true → has_room B c ≡ true → admitted B c ≡ Taken
  admitted_from related ordered room = provided_from _ _ _ related ∙ provided_from _ _ _ ordered ∙ provided_from _ _ _ room

  -- what is admitted is taken, or turned away by 3, 4 or 5
  pub admitted_either : (admitted B c ≡ Taken) ⊎ ((r : Refusal) × TurnedAway r × (admitted B c ≡ Refused r))
  admitted_either = go (is_related B.changes c) (is_ordered B.changes c) (has_room B c)
    where
      Either : Outcome → Type 0
      Either o = (o ≡ Taken) ⊎ ((r : Refusal) × TurnedAway r × (o ≡ Refused r))

      go : (a b d : Bool) → Either (provided a Unrelated (provided b Unordered (provided d Full Taken)))
      go false b d = inr (Unrelated, inl refl, refl)
      go true false d = inr (Unordered, inr (inl refl), refl)
      go true true false = inr (Full, inr (inr refl), refl)
      go true true true = inl refl

  pub admitted_not_waits : admitted B c ≡ Waits → ⊥
  admitted_not_waits e = elim admitted_either [
    | inl f ↦ waits_or_taken (sym e ∙ f)
    | inr (r, away, f) ↦ waits_goes r (sym f ∙ e)
  ]
