-- That a change which no other needs can be taken out of a sound set, and that what remains stands as it did.
-- Assumes nothing.
use Rattle.std.proofs.Common.{sym, ◌∙◌, subst}
use Rattle.std.proofs.lemmas.Bool.{ne_eqb, not_from_false}
use Rattle.change.specs.Membership.{In, Within}
use Rattle.order.specs.Fits.{Sound, Closed}
use Rattle.order.specs.Theorems.{without, TakenBack}
use Rattle.order.proofs.Members.{kept_from, kept_has}
use Rattle.order.proofs.OneName.{sound_closed}
use Rattle.order.proofs.Agreement.{agree_within}
use Rattle.order.proofs.ClosedPart.{part_sound}

pub taken_back_lem : TakenBack
taken_back_lem S n s none = (sound, agree_within (without n S) S sound s within)
  where
    within : Within (without n S) S
    within c i = (kept_from _ S c i).0

    closed : Closed (without n S)
    closed c i m j =
        let (d, k, e) = sound_closed S s c (within c i) m j in
        (d, kept_has _ S d k (not_from_false _ (ne_eqb _ _ (λ f. none c (within c i) (subst (λ x. In x c.needs) (sym e ∙ f) j)))), e)

    sound : Sound (without n S)
    sound = part_sound S (without n S) s within closed
