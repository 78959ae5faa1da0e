-- How many events taking changes brings, with what waits then: room for the events of a whole letter can be made before any of it is taken.
-- Assumes nothing.
use Rattle.std.proofs.Common.{◌≡◌, ℕ, zero, suc, ◌+◌, ◌≤◌, not, eqb, List, [], ◌∷◌, length, Some, None, Option, refl, ap, ◌∙◌, arith, length-append}
use Rattle.std.proofs.lemmas.Bool.{eq-eqb}
use Rattle.change.specs.Model.{Change}
use Rattle.history.specs.declared.Event.{Event}
use Rattle.history.specs.declared.Outcome.{Outcome}
use Rattle.history.specs.declared.Outcome.TheVariants.{Taken, Waits, Refused}
use Rattle.history.specs.Book.{Book, enter, waits_no_more}
use Rattle.history.specs.Taking.{admitted, verdict, after, lowest_ready, tried, try_then, settled, taken_as, take}
use Rattle.history.proofs.Lowest.{next_waits}
use Rattle.history.proofs.Names.{length_kept_less}
use Rattle.history.proofs.Outcomes.{admitted_not_waits}
use Rattle.order.specs.Theorems.{without}
use Rattle.sending.specs.Receiving.{and_then}

-- a change that was tried doesn't wait any more
fewer_wait : (B : Book) (c : Change) → lowest_ready B ≡ Some c → suc (length (tried B c).waiting) ≤ length B.waiting
fewer_wait B c next = go (admitted B c) refl
  where
    less : suc (length (without c.name B.waiting)) ≤ length B.waiting
    less = omega (arith, length_kept_less (λ d. not (eqb d.name c.name)) B.waiting c (next_waits B c next).0 (ap not (eq-eqb c.name c.name refl)))

    go : (o : Outcome) → admitted B c ≡ o → suc (length (after o (waits_no_more B c.name) c).waiting) ≤ length B.waiting
    go Taken e = less
    go Waits e = absurd (admitted_not_waits B c e)
    go (Refused r) e = less

settled_counts : (n : ℕ) (B : Book) → length (settled n B).0 + length (settled n B).1.waiting ≤ length B.waiting
settled_counts zero B = omega arith
settled_counts (suc n) B = go (lowest_ready B) refl (λ c. settled_counts n (tried B c))
  where
    go : (o : Option Change) → lowest_ready B ≡ o → ((c : Change) → length (settled n (tried B c)).0 + length (settled n (tried B c)).1.waiting ≤ length (tried B c).waiting) →
        length (try_then (settled n) B o).0 + length (try_then (settled n) B o).1.waiting ≤ length B.waiting
    go None e rest = omega arith
    go (Some c) e rest = omega (arith, rest c, fewer_wait B c e)

pub take_counts_events : (B : Book) (c : Change) → length (take B c).0 + length (take B c).1.waiting ≤ 2 + length B.waiting
take_counts_events B c = go (verdict B c)
  where
    go : (o : Outcome) → length (taken_as o B c).0 + length (taken_as o B c).1.waiting ≤ 2 + length B.waiting
    go Taken = omega (arith, settled_counts (length B.waiting) (enter B c))
    go Waits = omega (arith, length-append B.waiting (c ∷ []))
    go (Refused r) = omega arith

-- the same where the events are added to others
pub added_counts : (es fs : List Event) (B A : Book) (c : Change) → (fs, A) ≡ and_then es (take B c) → length fs + length A.waiting ≤ length es + (2 + length B.waiting)
added_counts es fs B A c took =
    let events : length fs ≡ length es + length (take B c).0 = ap (λ t. length t.0) took ∙ length-append es (take B c).0 in
    let waits : length A.waiting ≡ length (take B c).1.waiting = ap (λ t. length t.1.waiting) took in
    omega (arith, take_counts_events B c)
