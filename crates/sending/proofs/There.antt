-- That all of a letter is there in the end, where nothing is turned away but what is known.
-- Assumes nothing.
use Rattle.std.proofs.Common.{◌≡◌, ℕ, true, List, [], ◌∷◌, sym, refl, ap, ◌∙◌, inl, inr, arith}
use Rattle.std.proofs.lemmas.Bool.{cond-true}
use Rattle.change.specs.declared.refusal.Refusal.{Refusal}
use Rattle.change.specs.declared.refusal.Refusal.TheVariants.{Known}
use Rattle.change.specs.Membership.{In, Within}
use Rattle.change.specs.Model.{Change}
use Rattle.change.specs.WellFormed.{well_formed}
use Rattle.order.specs.Names.{HasName}
use Rattle.order.specs.Fits.{Sound, OneChange}
use Rattle.order.proofs.Members.{in_left, in_right, in_either}
use Rattle.order.proofs.Deciding.{choice}
use Rattle.order.proofs.OneName.{sound_one, has_name_lem}
use Rattle.order.proofs.SoundPuts.{sound_formed}
use Rattle.history.specs.Book.{Book}
use Rattle.history.specs.Taking.{event, admitted, verdict, take}
use Rattle.history.specs.Sane.{Sane}
use Rattle.history.specs.Theorems.{New, Ready, TurnedAway}
use Rattle.history.proofs.Names.{decides_ready}
use Rattle.history.proofs.Outcomes.{provided_from, admitted_either}
use Rattle.history.proofs.Verdicts.{decides_new}
use Rattle.history.proofs.Taking.{sane_take, came_in}
use Rattle.sending.specs.Sending.{sent}
use Rattle.sending.specs.Receiving.{received}
use Rattle.sending.specs.Theorems.{held, OnlyKnown, AllThere}
use Rattle.sending.proofs.Walks.{sent_sends}
use Rattle.sending.proofs.Closing.{Follows}
use Rattle.sending.proofs.Receiving.{received_sane, taken_comes, follows_on, letter_follows_in}
use Rattle.sending.proofs.Union.{waiting_from}

known_stays : (r : Refusal) → TurnedAway r → r ≡ Known → ⊥
known_stays r (inl e) k = let z : ◌≡◌ {A = ℕ} 0 1 = cc in omega arith
known_stays r (inr (inl e)) k = let z : ◌≡◌ {A = ℕ} 0 1 = cc in omega arith
known_stays r (inr (inr e)) k = let z : ◌≡◌ {A = ℕ} 0 1 = cc in omega arith

-- what is new and ready is admitted, or turned away
new_is_admitted : (B : Book) (c : Change) → New B c → Ready B c → verdict B c ≡ admitted B c
new_is_admitted B c new ready = provided_from _ _ _ ((decides_new B c).1 new) ∙ cond-true _ _ _ ((decides_ready B.changes c).1 ready)

module _ (S : List Change) (sound : Sound S) where
  module _ (B : Book) (s : Sane B) (one : OneChange S (held B)) (c : Change) (i : In c S) where
    well : well_formed c ≡ true
    well = sound_formed S sound c i

    one_on : OneChange S (held (take B c).1)
    one_on x y j k n = elim (in_either (take B c).1.changes (take B c).1.waiting y k) [
      | inl l ↦ elim ((came_in B s c well y).0 l) [
        | inl m ↦ one x y j (in_left B.changes B.waiting y m) n
        | inr (inl e, _) ↦ itself e
        | inr (inr m, _) ↦ one x y j (in_right B.changes B.waiting y m) n
      ]
      | inr l ↦ elim (waiting_from B s c well y l) [ inl e ↦ itself e | inr m ↦ one x y j (in_right B.changes B.waiting y m) n ]
    ]
      where
        itself : y ≡ c → x ≡ y
        itself e = sound_one S sound x y j (rw e i) n

    there_now : Ready B c → OnlyKnown (take B c).0 → In c (take B c).1.changes
    there_now ready only = elim (choice _ (has_name_lem B.changes c.name)) [
      | yes (d, j, e) ↦ (came_in B s c well c).1 (inl (rw (one c d i (in_left B.changes B.waiting d j) (sym e)) j))
      | no new ↦ elim (choice _ (has_name_lem B.waiting c.name)) [
        | yes (d, j, e) ↦
            let same = one c d i (in_right B.changes B.waiting d j) (sym e) in
            let (n, k, lacks) = s.lacking d j in
            absurd (lacks (ready n (rw same k)))
        | no none ↦ elim (admitted_either B c) [
          | inl taken ↦ taken_comes B s c well (new_is_admitted B c (new, none) ready ∙ taken)
          | inr (r, away, e) ↦ absurd (known_stays r away (only c.name r (inl (ap (event c.name) (sym (new_is_admitted B c (new, none) ready ∙ e))))))
        ]
      ]
    ]

  all_there_then :
      (cs : List Change) (B : Book) → Sane B → OneChange S (held B) → Within cs S → Follows (HasName B.changes) cs → OnlyKnown (received B cs).0 →
      Within cs (received B cs).1.changes
  all_there_then [] B s one w follows only c i = absurd i
  all_there_then (x ∷ cs) B s one w (needs, follows) only c i =
      let j = w x (inl refl) in
      let formed = sound_formed S sound x j in
      let sane = sane_take B s x formed in
      let here = there_now B s one x j needs (λ n r k. only n r (in_left (take B x).0 _ _ k)) in
      elim i [
        | inl e ↦ (received_sane (take B x).1 sane cs (λ d k. sound_formed S sound d (w d (inr k)))).1 c (rw e here)
        | inr k ↦
            all_there_then cs (take B x).1 sane (one_on B s one x j) (λ d l. w d (inr l)) (follows_on B s x formed (x, here, refl) cs follows)
            (λ n r l. only n r (in_right (take B x).0 _ _ l)) c k
      ]

pub all_there : AllThere
all_there S sound B s one has named only =
    all_there_then S sound (sent has S) B s one (λ c i. (((sent_sends has S sound).exactly c).0 i).0) (letter_follows_in S sound has B.changes named) only
