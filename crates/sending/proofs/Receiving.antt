-- What comes of a letter: the book stays sane and keeps what it had, and no change of the letter waits unless one before it was turned away.
-- Formed cs: the changes cs are well formed.
-- Assumes nothing.
use Rattle.std.proofs.Common.{◌≡◌, ℕ, true, ◌⊎◌, List, [], ◌∷◌, ◌++◌, sym, refl, ap, subst, inl, inr}
use Rattle.change.specs.Membership.{In}
use Rattle.change.specs.Model.{Change}
use Rattle.change.specs.WellFormed.{well_formed}
use Rattle.order.specs.Names.{HasName}
use Rattle.order.specs.Fits.{Sound}
use Rattle.order.proofs.Members.{in_left, in_right}
use Rattle.order.proofs.Deciding.{choice}
use Rattle.order.proofs.OneName.{sound_closed, has_name_lem}
use Rattle.order.proofs.SoundPuts.{sound_formed}
use Rattle.history.specs.declared.Outcome.{Outcome}
use Rattle.history.specs.declared.Outcome.TheVariants.{Taken, Waits, Refused}
use Rattle.history.specs.Book.{Book}
use Rattle.history.specs.Taking.{event, verdict, take}
use Rattle.history.specs.Sane.{Sane}
use Rattle.history.specs.Theorems.{Ready}
use Rattle.history.proofs.Names.{has_name_more}
use Rattle.history.proofs.Verdicts.{waits_tests}
use Rattle.history.proofs.Taking.{refused_alters_nothing, sane_take, came_in}
use Rattle.sending.specs.Sending.{sent}
use Rattle.sending.specs.Receiving.{received, Away, AwayAmong}
use Rattle.sending.specs.Theorems.{NoneRefused, ReceivedSane, NothingWaits, AllTaken, RefusedLeavesNoTrace}
use Rattle.sending.proofs.Walks.{sent_sends}
use Rattle.sending.proofs.Closing.{Follows, follows_more, letter_follows}

abbrev pub Formed : List Change → Type 0
Formed cs = (c : Change) → In c cs → well_formed c ≡ true

pub received_sane : ReceivedSane
received_sane B s [] formed = (s, λ d i. i)
received_sane B s (c ∷ cs) formed =
    let (sane, stays) = received_sane (take B c).1 (sane_take B s c (formed c (inl refl))) cs (λ d i. formed d (inr i)) in
    (sane, λ d i. stays d ((came_in B s c (formed c (inl refl)) d).1 (inl i)))

pub taken_comes : (B : Book) → Sane B → (c : Change) → well_formed c ≡ true → verdict B c ≡ Taken → In c (take B c).1.changes
taken_comes B s c formed e = (came_in B s c formed c).1 (inr (inl refl, inl (ap (event c.name) (sym e))))

ready_goes : (B : Book) (c : Change) → Ready B c → verdict B c ≡ Waits → ⊥
ready_goes B c ready e = let (new, (n, i, none), few) = waits_tests B c e in none (ready n i)

-- a change whose needs are there is in the book afterwards, or one of its name is, or it is turned away
pub comes_or_away : (B : Book) → Sane B → (c : Change) → well_formed c ≡ true → Ready B c → Away B c ⊎ HasName (take B c).1.changes c.name
comes_or_away B s c formed ready = go (verdict B c) refl (choice _ (has_name_lem B.changes c.name))
  where
    go : (o : Outcome) → verdict B c ≡ o → Dec (HasName B.changes c.name) → Away B c ⊎ HasName (take B c).1.changes c.name
    go Taken e _ = inr (c, taken_comes B s c formed e, refl)
    go Waits e _ = absurd (ready_goes B c ready e)
    go (Refused r) e (yes (d, i, n)) = inr (d, (came_in B s c formed d).1 (inl i), n)
    go (Refused r) e (no none) = inl (r, e, none)

-- what followed the first follows in the book that has taken it
pub follows_on :
    (B : Book) → Sane B → (c : Change) → well_formed c ≡ true → HasName (take B c).1.changes c.name → (cs : List Change) →
    Follows (λ n. HasName B.changes n ⊎ (c.name ≡ n)) cs → Follows (HasName (take B c).1.changes) cs
follows_on B s c formed here =
    follows_more _ _ (λ n p. elim p [
      | inl h ↦ has_name_more B.changes (take B c).1.changes (λ d i. (came_in B s c formed d).1 (inl i)) n h
      | inr e ↦ subst (HasName (take B c).1.changes) e here
    ])

waits_if_away :
    (front : List Change) (c : Change) (back : List Change) (B : Book) → Sane B → Formed front → Follows (HasName B.changes) (front ++ c ∷ back) →
    verdict (received B front).1 c ≡ Waits → AwayAmong B front
waits_if_away [] c back B s formed follows e = absurd (ready_goes B c follows.0 e)
waits_if_away (x ∷ front) c back B s formed (needs, follows) e = elim (comes_or_away B s x (formed x (inl refl)) needs) [
  | inl away ↦ inl away
  | inr here ↦
      inr (waits_if_away front c back (take B x).1 (sane_take B s x (formed x (inl refl))) (λ d i. formed d (inr i))
      (follows_on B s x (formed x (inl refl)) here (front ++ c ∷ back) follows) e)
]

-- a change whose needs are there is taken, if no event is a refusal
taken_now : (B : Book) → Sane B → (c : Change) → well_formed c ≡ true → Ready B c → NoneRefused (take B c).0 → In c (take B c).1.changes
taken_now B s c formed ready none = go (verdict B c) refl
  where
    go : (o : Outcome) → verdict B c ≡ o → In c (take B c).1.changes
    go Taken e = taken_comes B s c formed e
    go Waits e = absurd (ready_goes B c ready e)
    go (Refused r) e = absurd (none c.name r (inl (ap (event c.name) (sym e))))

-- and so each of several, when its turn comes
taken_unless_refused :
    (cs : List Change) (B : Book) → Sane B → Formed cs → Follows (HasName B.changes) cs → NoneRefused (received B cs).0 →
    (c : Change) → In c cs → In c (received B cs).1.changes
taken_unless_refused [] B s formed follows none c i = absurd i
taken_unless_refused (x ∷ cs) B s formed (needs, follows) none c i =
    let well = formed x (inl refl) in
    let later : Formed cs = λ d j. formed d (inr j) in
    let sane = sane_take B s x well in
    let here = taken_now B s x well needs (λ n r j. none n r (in_left (take B x).0 _ _ j)) in
    elim i [
      | inl e ↦ (received_sane (take B x).1 sane cs later).1 c (rw e here)
      | inr j ↦ taken_unless_refused cs (take B x).1 sane later (follows_on B s x well (x, here, refl) cs follows) (λ n r k. none n r (in_right (take B x).0 _ _ k)) c j
    ]

module _ (S : List Change) (sound : Sound S) (has : List ℕ) where
  abbrev letter : List Change
  letter = sent has S

  pub letter_formed : Formed letter
  letter_formed c i = sound_formed S sound c (((sent_sends has S sound).exactly c).0 i).0

  pub letter_follows_in : (H : List Change) → ((n : ℕ) → In n has → HasName H n) → Follows (HasName H) letter
  letter_follows_in H named = follows_more _ _ named letter (letter_follows has S (sound_closed S sound) letter (sent_sends has S sound))

pub nothing_waits : NothingWaits
nothing_waits S sound B s has named front c back e =
    waits_if_away front c back B s (λ d i. letter_formed S sound has d (subst (In d) (sym e) (in_left front (c ∷ back) d i)))
    (subst (Follows (HasName B.changes)) e (letter_follows_in S sound has B.changes named))

pub all_taken : AllTaken
all_taken S sound B s has named none =
    taken_unless_refused (sent has S) B s (letter_formed S sound has) (letter_follows_in S sound has B.changes named) none

pub refused_leaves_no_trace : RefusedLeavesNoTrace
refused_leaves_no_trace B [] c back r e = ap (λ q. (received q.1 back).1) (refused_alters_nothing B c r e)
refused_leaves_no_trace B (x ∷ front) c back r e = refused_leaves_no_trace (take B x).1 front c back r e
