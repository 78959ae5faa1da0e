-- What holds of taking a change: that the book stays sane, what came in, and what became of those that waited.
-- Assumes nothing.
use Rattle.std.proofs.Common.{◌≡◌, ℕ, true, ◌⊎◌, ◌↔◌, List, [], ◌∷◌, length, sym, refl, ap, subst, inl, inr, arith}
use Rattle.std.proofs.lemmas.Bool.Decides.{Decides-not}
use Rattle.change.specs.Membership.{In}
use Rattle.change.specs.Model.{Change}
use Rattle.change.specs.WellFormed.{well_formed}
use Rattle.order.specs.Names.{HasName}
use Rattle.order.proofs.Deciding.{decides_itself}
use Rattle.order.proofs.Members.{in_left, in_either}
use Rattle.order.proofs.Fitting.{listed_sound}
use Rattle.order.proofs.Agreement.{agree_within}
use Rattle.history.specs.declared.Outcome.{Outcome}
use Rattle.history.specs.declared.Outcome.TheVariants.{Taken, Waits, Refused}
use Rattle.history.specs.declared.Event.{Event}
use Rattle.history.specs.Book.{Book, is_ready, enter}
use Rattle.history.specs.Taking.{event, verdict, after, settled, tries, taken_as, take}
use Rattle.history.specs.Sane.{Sane}
use Rattle.history.specs.Theorems.{SaneEmpty, SaneTake, RefusedAltersNothing, CameIn, EventsOfWaiting, WaitingEnds, NothingTurnsAround, Turned}
use Rattle.history.proofs.Names.{distinct_one, decides_lacks}
use Rattle.history.proofs.Outcomes.{taken_goes, waits_or_taken}
use Rattle.history.proofs.Moments.{counting_rises, enter_orderly, wait_orderly}
use Rattle.history.proofs.Verdicts.{taken_is_fits, waits_tests}
use Rattle.history.proofs.Settling.{CountGoesOn, Story, settled_story, settled_none_ready}

pub refused_alters_nothing : RefusedAltersNothing
refused_alters_nothing B c r e = ap (λ o. taken_as o B c) e

pub sane_empty : SaneEmpty
sane_empty plant = record {
  orderly = record {
    listed = tt;
    formed = λ c i. absurd i;
    distinct = tt;
    outside = λ c i. absurd i;
    few_changes = omega arith;
    few_lines = omega arith;
    few_wait = omega arith;
    counted = λ c i. absurd i;
  };
  lacking = λ c i. absurd i;
}

-- no event calls a change taken where the one that was handed over isn't, and nothing else happens
none_taken : (o : Outcome) → (Taken ≡ o → ⊥) → (m n : ℕ) → In (event n Taken) (event m o ∷ []) → ⊥
none_taken o other m n (inl e) = other (ap (λ x. x.outcome) e)
none_taken o other m n (inr none) = none

module _ (B : Book) (s : Sane B) (c : Change) (formed : well_formed c ≡ true) where
  module _ (taken : verdict B c ≡ Taken) where
    alone : HasName B.waiting c.name → ⊥
    alone = ((taken_is_fits B s c formed).0 taken).1

    abbrev later : List Event × Book
    later = settled (length B.waiting) (enter B c)

    pub story : Story (enter B c) later.0 later.1
    story =
        let (fits, new, room) = (taken_is_fits B s c formed).0 taken in
        settled_story (length B.waiting) (enter B c) (enter_orderly B s.orderly c fits new room)

    taken_sane : Sane later.1
    taken_sane = record {
      orderly = story.orderly;
      lacking = λ d i.
          (decides_lacks later.1.changes d).0
          ((Decides-not _ (decides_itself (is_ready later.1 d))).1 (settled_none_ready (length B.waiting) (enter B c) (omega arith) d i));
    }

    came_back : (d : Change) → In d (c ∷ B.waiting) → In (event d.name Taken) (event c.name Taken ∷ later.0) → In d later.1.changes
    came_back d (inl e) k = story.stays d (inl e)
    came_back d (inr i) (inl e) = absurd (alone (d, i, ap (λ x. x.name.0) e))
    came_back d (inr i) (inr j) =
        let (x, k, e, taken_in) = story.told _ j in
        subst (λ y. In y later.1.changes) (distinct_one B.waiting s.orderly.distinct x d k i e) (taken_in refl)

pub sane_take : SaneTake
sane_take B s c formed = go (verdict B c) refl
  where
    go : (o : Outcome) → verdict B c ≡ o → Sane (taken_as o B c).1
    go Taken e = taken_sane B s c formed e
    go Waits e =
        let (new, lacks, few) = waits_tests B c e in
        record {
          orderly = wait_orderly B s.orderly c formed new few;
          lacking = λ d i. elim (in_either B.waiting (c ∷ []) d i) [ inl j ↦ s.lacking d j | inr (inl f) ↦ rw f lacks | inr (inr none) ↦ absurd none ];
        }
    go (Refused r) e = s

pub came_in : CameIn
came_in B s c formed d = go (verdict B c) refl
  where
    Called : Outcome → Type 0
    Called o = In d (c ∷ B.waiting) × In (event d.name Taken) (taken_as o B c).0

    go : (o : Outcome) → verdict B c ≡ o → In d (taken_as o B c).1.changes ↔ (In d B.changes ⊎ Called o)
    go Taken e = (
      λ i. elim ((story B s c formed e).came d i) [ inl (inl f) ↦ inr (inl f, inl (rw f refl)) | inl (inr j) ↦ inl j | inr (j, k) ↦ inr (inr j, inr k) ],
      λ h. elim h [ inl i ↦ (story B s c formed e).stays d (inr i) | inr (i, k) ↦ came_back B s c formed e d i k ],
    )
    go Waits e = (inl, λ h. elim h [ inl i ↦ i | inr (i, k) ↦ absurd (none_taken Waits (λ f. waits_or_taken (sym f)) c.name d.name k) ])
    go (Refused r) e = (inl, λ h. elim h [ inl i ↦ i | inr (i, k) ↦ absurd (none_taken (Refused r) (λ f. taken_goes r (sym f)) c.name d.name k) ])

pub events_of_waiting : EventsOfWaiting
events_of_waiting B s c formed = ((settled (tries (verdict B c) B) (after (verdict B c) B c)).0, refl, go (verdict B c) refl)
  where
    go : (o : Outcome) → verdict B c ≡ o → (e : Event) → In e (settled (tries o B) (after o B c)).0 → HasName B.waiting e.name.0
    go Taken taken e i = let (d, j, f, _) = (story B s c formed taken).told e i in (d, j, f)
    go Waits _ e i = absurd i
    go (Refused r) _ e i = absurd i

pub waiting_ends : WaitingEnds
waiting_ends B s c formed d i = go (verdict B c) refl
  where
    go : (o : Outcome) → verdict B c ≡ o → In d (taken_as o B c).1.waiting ⊎ (In d (taken_as o B c).1.changes ⊎ Turned (taken_as o B c).0 d)
    go Taken e = elim ((story B s c formed e).ends d i) [ inl j ↦ inl j | inr (inl j) ↦ inr (inl j) | inr (inr (r, away, j)) ↦ inr (inr (r, away, inr j)) ]
    go Waits e = inl (in_left B.waiting (c ∷ []) d i)
    go (Refused r) e = inl i

pub nothing_turns_around : NothingTurnsAround
nothing_turns_around B s c formed =
    agree_within B.changes (take B c).1.changes (listed_sound _ s.orderly.listed) (listed_sound _ (sane_take B s c formed).orderly.listed)
    (λ d i. (came_in B s c formed d).1 (inl i))

pub take_counts : (B : Book) → Sane B → (c : Change) → well_formed c ≡ true → CountGoesOn B (take B c).1
take_counts B s c formed = go (verdict B c) refl
  where
    go : (o : Outcome) → verdict B c ≡ o → CountGoesOn B (taken_as o B c).1
    go Taken e = let (plant, high) = (story B s c formed e).counts in (plant, omega (arith, counting_rises B.plant c B.highest))
    go Waits e = (refl, omega arith)
    go (Refused r) e = (refl, omega arith)
