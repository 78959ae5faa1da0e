-- Two books of which the first has a change that waits for one that the second has: passed each way, the change comes in at the first, and the second never gets it.
-- Assumes nothing.
use Rattle.std.proofs.Common.{◌≡◌, ℕ, ◌<◌, List, [], ◌∷◌, refl, ap, inl, inr, arith}
use Rattle.change.specs.Membership.{In}
use Rattle.change.specs.Model.{Change}
use Rattle.change.specs.Bytes.{change_bytes}
use Rattle.order.specs.Fits.{OneChange}
use Rattle.history.specs.declared.Outcome.TheVariants.{Taken}
use Rattle.history.specs.declared.Event.{Event}
use Rattle.history.specs.Book.{Book}
use Rattle.history.specs.Taking.{event}
use Rattle.history.proofs.Outcomes.{taken_goes}
use Rattle.sending.specs.Theorems.{NoneRefused, held}
use Rattle.world.specs.World.{Action, makes, takes}
use Rattle.world.specs.Theorems.{EachWay, WaitingMatters}

-- made on the second book, as the change 17
abbrev made_there : Change
made_there = record { name = 17; sheet = 0; needs = []; adds = record { after = 0; before = 1; text = 97 ∷ [] } ∷ []; kills = [] }

-- made elsewhere, and needs that one
abbrev waits_here : Change
waits_here = record { name = 18; sheet = 0; needs = 17 ∷ []; adds = record { after = 1088; before = 1; text = 98 ∷ [] } ∷ []; kills = [] }

abbrev actions : List Action
actions = makes 1 (record { sheet = 0; adds = made_there.adds; kills = [] }) ∷ takes 0 (change_bytes waits_here) ∷ []

abbrev first : Book
first = record { plant = 0; highest = 0; changes = []; waiting = waits_here ∷ [] }

abbrev second : Book
second = record { plant = 1; highest = 1; changes = made_there ∷ []; waiting = [] }

abbrev first_after : Book
first_after = record { plant = 0; highest = 0; changes = waits_here ∷ made_there ∷ []; waiting = [] }

few : (p : ℕ) → In p (0 ∷ 1 ∷ []) → p < 16
few p (inl e) = omega arith
few p (inr (inl e)) = omega arith
few p (inr (inr none)) = absurd none

abbrev events_back : List Event
events_back = event 17 Taken ∷ event 18 Taken ∷ []

none_back : NoneRefused events_back
none_back n r (inl e) = taken_goes r (ap (λ x. x.outcome) e)
none_back n r (inr (inl e)) = taken_goes r (ap (λ x. x.outcome) e)
none_back n r (inr (inr none)) = none

other_name : waits_here ≡ made_there → ⊥
other_name e = let z = ap (λ c. c.name) e in omega arith

each_way : EachWay 0 1 first second [] events_back first_after second
each_way = record {
  world = first ∷ second ∷ [];
  arises = (0 ∷ 1 ∷ [], few, actions, refl);
  first = refl;
  second = refl;
  between = first ∷ second ∷ [];
  there = refl;
  last = first_after ∷ second ∷ [];
  back = refl;
  first_after = refl;
  second_after = refl;
}

one_change : OneChange (held first) (held second)
one_change c d (inl e) (inl f) n = absurd (omega (arith, ap (λ x. x.name) e, ap (λ x. x.name) f))
one_change c d (inl e) (inr none) n = absurd none
one_change c d (inr none) j n = absurd none

pub waiting_matters : WaitingMatters
waiting_matters = (
  first,
  second,
  [],
  events_back,
  first_after,
  second,
  each_way,
  one_change,
  λ n r i. i,
  none_back,
  λ same. elim (same.0 waits_here (inl refl)) [ inl e ↦ other_name e | inr none ↦ none ],
)
