-- What the tests that are made when a change comes say of it, and that the book is orderly after.
-- Assumes nothing.
use Rattle.std.proofs.Common.{◌≡◌, Bool, true, cond, not, ◌||◌, ltb, List, [], ◌∷◌, ◌++◌, length, sym, refl, ap, ◌∙◌, subst, append_assoc}
use Rattle.change.specs.declared.refusal.Refusal.TheVariants.{Known, Full}
use Rattle.change.specs.Model.{Change}
use Rattle.change.specs.WellFormed.{well_formed}
use Rattle.verdict.specs.Verdict.{is_known}
use Rattle.history.specs.declared.Event.{Event}
use Rattle.history.specs.declared.Outcome.{Outcome}
use Rattle.history.specs.declared.Outcome.TheVariants.{Taken, Waits, Refused}
use Rattle.history.specs.Book.{Book, wait_limit, is_ready, enter}
use Rattle.history.specs.Sane.{Orderly, Sane}
use Rattle.history.specs.Taking.{provided, event, admitted, verdict, after, settled, taken_as, take}
use Rattle.sending.specs.Receiving.{and_then}
use Rattle.history.proofs.Moments.{enter_orderly, wait_orderly}
use Rattle.history.proofs.Taking.{sane_take}
use Rattle.history.proofs.Verdicts.{taken_is_fits, waits_tests}

module _ (B : Book) (c : Change) where
  pub verdict_by_tests : (known ready room : Bool) → is_known B.changes c || is_known B.waiting c ≡ known → is_ready B c ≡ ready → ltb (length B.waiting) wait_limit ≡ room →
      provided (not known) Known (cond ready (admitted B c) (provided room Full Waits)) ≡ verdict B c
  verdict_by_tests known ready room known_so ready_so room_so =
      sym (λ i. provided (not (known_so i)) Known (cond (ready_so i) (admitted B c) (provided (room_so i) Full Waits)))

  module _ (sane : Sane B) (formed : well_formed c ≡ true) where
    after_orderly : (o : Outcome) → verdict B c ≡ o → Orderly (after o B c)
    after_orderly Taken e =
        let (fits, new, room) = (taken_is_fits B sane c formed).0 e in
        enter_orderly B sane.orderly c fits new room
    after_orderly Waits e =
        let (new, lacks, few) = waits_tests B c e in
        wait_orderly B sane.orderly c formed new few
    after_orderly (Refused r) e = sane.orderly

    pub received_orderly : (o : Outcome) → o ≡ verdict B c → (A : Book) → A ≡ after o B c → Orderly A
    received_orderly o answer A came = subst Orderly (sym came) (after_orderly o (sym answer))

    -- with nothing tried, since nothing came in
    pub nothing_tried : (o : Outcome) → o ≡ verdict B c → (o ≡ Taken → ⊥) → (es fs : List Event) → fs ≡ es ++ event c.name o ∷ [] → (A : Book) → A ≡ after o B c → (fs, A) ≡ and_then es (take B c)
    nothing_tried Taken answer other es fs told A came = absurd (other refl)
    nothing_tried Waits answer other es fs told A came = (λ i. (told i, came i)) ∙ ap (λ o. and_then es (taken_as o B c)) answer
    nothing_tried (Refused r) answer other es fs told A came = (λ i. (told i, came i)) ∙ ap (λ o. and_then es (taken_as o B c)) answer

    -- it came in, and what waited was tried
    pub then_tried : (o : Outcome) → o ≡ Taken → o ≡ verdict B c → (es fs : List Event) → fs ≡ es ++ event c.name o ∷ [] → (A : Book) → A ≡ after o B c →
        (t : List Event × Book) → t ≡ and_then fs (settled (length A.waiting) A) → t ≡ and_then es (take B c)
    then_tried o taken answer es fs told A came t tried =
        let entered = came ∙ ap (λ x. after x B c) taken in
        let first = told ∙ ap (λ x. es ++ event c.name x ∷ []) taken in
        tried
        ∙ (λ i. and_then (first i) (settled (length (entered i).waiting) (entered i)))
        ∙ ap (λ l. (l, (settled (length B.waiting) (enter B c)).1)) (append_assoc es (event c.name Taken ∷ []) (settled (length B.waiting) (enter B c)).0)
        ∙ ap (λ x. and_then es (taken_as x B c)) (sym taken ∙ answer)

    pub taken_sane : (es fs : List Event) (A : Book) → (fs, A) ≡ and_then es (take B c) → Sane A
    taken_sane es fs A took = subst (λ t. Sane t.1) (sym took) (sane_take B sane c formed)
