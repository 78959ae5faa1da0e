-- What the verdict on a change says: that a change is taken exactly if it fits, and waits exactly if it lacks a need.
-- Assumes nothing.
use Rattle.std.proofs.Common.{◌≡◌, ◌+◌, ◌<◌, Bool, true, false, cond, not, ◌||◌, ltb, List, length, Decides, refl, ◌∙◌, inl, inr}
use Rattle.std.proofs.lemmas.Bool.{and_parts, and_from, not-true, not_from_false, ltb-true, lt-ltb, leb-true, le-leb, cond-true, cond-false}
use Rattle.std.proofs.lemmas.Bool.Decides.{Decides-not, Decides-or, Decides-and, Decides-ltb, Decides-like}
use Rattle.change.specs.declared.refusal.Refusal.TheVariants.{Full}
use Rattle.change.specs.Model.{Change}
use Rattle.change.specs.WellFormed.{well_formed}
use Rattle.order.specs.Names.{HasName}
use Rattle.order.specs.Fits.{Fits, Listed}
use Rattle.order.proofs.OneName.{has_name_lem}
use Rattle.verdict.specs.Verdict.{is_known, needs_here, is_related, is_ordered}
use Rattle.verdict.proofs.Fitting.{fits_decided}
use Rattle.history.specs.declared.Outcome.{Outcome}
use Rattle.history.specs.declared.Outcome.TheVariants.{Taken, Waits}
use Rattle.history.specs.Book.{Book, change_limit, line_limit, wait_limit, lines_of, has_room, is_ready}
use Rattle.history.specs.Sane.{Lacks}
use Rattle.history.specs.Taking.{provided, admitted, verdict}
use Rattle.history.specs.Theorems.{New, Room, TakenIsFits, WaitsIsLacks}
use Rattle.history.proofs.Names.{decides_lacks}
use Rattle.history.proofs.Outcomes.{taken_goes, waits_goes, waits_or_taken, provided_passes, provided_from, admitted_passes, admitted_from, admitted_not_waits}

pub fits_by_tests :
    (L : List Change) → Listed L → (c : Change) → well_formed c ≡ true → (HasName L c.name → ⊥) →
    needs_here L c ≡ true → is_related L c ≡ true → is_ordered L c ≡ true → Fits L c
fits_by_tests L l c formed new here related ordered =
    (fits_decided L l c).0 (and_from _ _ formed (and_from _ _ ((Decides-not _ (has_name_lem L c.name)).1 new) (and_from _ _ here (and_from _ _ related ordered))))

fits_tests : (L : List Change) → Listed L → (c : Change) → Fits L c → (needs_here L c ≡ true) × (is_related L c ≡ true) × (is_ordered L c ≡ true)
fits_tests L l c fits =
    let (_, unknown) = and_parts (well_formed c) _ ((fits_decided L l c).1 fits) in
    let (_, here) = and_parts (not (is_known L c)) _ unknown in
    let (ready, placed) = and_parts (needs_here L c) _ here in
    let (related, ordered) = and_parts (is_related L c) _ placed in
    (ready, related, ordered)

module _ (B : Book) (c : Change) where
  pub decides_new : Decides (not (is_known B.changes c || is_known B.waiting c)) (New B c)
  decides_new =
      Decides-like _ (λ none. (λ h. none (inl h), λ h. none (inr h))) (λ new h. elim h [ inl k ↦ new.0 k | inr k ↦ new.1 k ])
      (Decides-not _ (Decides-or _ _ (has_name_lem B.changes c.name) (has_name_lem B.waiting c.name)))

  pub decides_room : Decides (has_room B c) (Room B c)
  decides_room =
      Decides-and _ _ (Decides-ltb (length B.changes) change_limit)
      (leb-true (lines_of B.changes + length c.adds) line_limit, le-leb (lines_of B.changes + length c.adds) line_limit)

  -- past the first test: the change is ready and admitted, or it may wait
  abbrev if_new : Bool → Outcome
  if_new ready = cond ready (admitted B c) (provided (ltb (length B.waiting) wait_limit) Full Waits)

  pub taken_tests : verdict B c ≡ Taken → New B c × (is_ready B c ≡ true) × (admitted B c ≡ Taken)
  taken_tests e =
      let (new, e₁) = provided_passes _ _ _ Taken taken_goes e in
      let (ready, e₂) = go (is_ready B c) e₁ in
      (decides_new.0 new, ready, e₂)
    where
      go : (b : Bool) → if_new b ≡ Taken → (b ≡ true) × (admitted B c ≡ Taken)
      go true e = (refl, e)
      go false e = absurd (waits_or_taken (provided_passes _ _ _ Taken taken_goes e).1)

  pub waits_tests : verdict B c ≡ Waits → New B c × Lacks B.changes c × (length B.waiting < wait_limit)
  waits_tests e =
      let (new, e₁) = provided_passes _ _ _ Waits waits_goes e in
      let (ready, few) = go (is_ready B c) e₁ in
      (decides_new.0 new, (decides_lacks B.changes c).0 (not_from_false _ ready), few)
    where
      go : (b : Bool) → if_new b ≡ Waits → (b ≡ false) × (length B.waiting < wait_limit)
      go true e = absurd (admitted_not_waits B c e)
      go false e = (refl, ltb-true _ _ (provided_passes _ _ _ Waits waits_goes e).0)

pub taken_is_fits : TakenIsFits
taken_is_fits B s c formed = (to, from)
  where
    to : verdict B c ≡ Taken → Fits B.changes c × (HasName B.waiting c.name → ⊥) × Room B c
    to e =
        let (new, ready, taken) = taken_tests B c e in
        let (related, ordered, room) = admitted_passes B c taken in
        (fits_by_tests B.changes s.orderly.listed c formed new.0 ready related ordered, new.1, (decides_room B c).0 room)

    from : Fits B.changes c × (HasName B.waiting c.name → ⊥) × Room B c → verdict B c ≡ Taken
    from (fits, new, room) =
        let (ready, related, ordered) = fits_tests B.changes s.orderly.listed c fits in
        provided_from _ _ _ ((decides_new B c).1 (λ (d, i, e). fits.new d i e, new))
        ∙ cond-true _ _ _ ready ∙ admitted_from B c related ordered ((decides_room B c).1 room)

pub waits_is_lacks : WaitsIsLacks
waits_is_lacks B c = (
  waits_tests B c,
  λ (new, lacks, few).
      provided_from _ _ _ ((decides_new B c).1 new)
      ∙ cond-false _ _ _ (not-true _ ((decides_lacks B.changes c).1 lacks))
      ∙ provided_from _ _ _ (lt-ltb _ _ few),
)
