-- That after a pass each way both books have the same: all that either had is in the second after the first pass, and goes back with the second.
-- second_after A B, first_after A B: what the books B and A then are.
-- Assumes nothing.
use Rattle.std.proofs.Common.{◌≡◌, ℕ, List, sym, refl, ap, ◌∙◌, subst, inl, inr}
use Rattle.std.specs.List.{slice_get}
use Rattle.std.proofs.lemmas.Bool.{cases_eq}
use Rattle.change.specs.Membership.{In, Within}
use Rattle.change.specs.Model.{Change}
use Rattle.order.specs.Fits.{Sound, OneChange}
use Rattle.order.proofs.Members.{in_left, in_right, in_either}
use Rattle.order.proofs.Deciding.{choice}
use Rattle.order.proofs.OneName.{sound_one}
use Rattle.verdict.proofs.FromNeeds.{decides_among}
use Rattle.blocks.proofs.Sets.{shown_one_way}
use Rattle.history.specs.declared.Event.{Event}
use Rattle.history.specs.Book.{Book}
use Rattle.history.specs.Sane.{Sane}
use Rattle.history.proofs.Shown.{same_bytes}
use Rattle.sending.specs.Sending.{names_of, sent}
use Rattle.sending.specs.Theorems.{NoneRefused, held, OnlyKnown}
use Rattle.sending.proofs.Walks.{sent_sends}
use Rattle.sending.proofs.Receiving.{received_sane, letter_formed, all_taken}
use Rattle.sending.proofs.Union.{came_from}
use Rattle.sending.proofs.There.{all_there}
use Rattle.world.specs.Calls.{passed}
use Rattle.world.specs.Whole.{BookAt}
use Rattle.world.specs.Theorems.{EachWay, StillWaits, Alike, PassedBoth, PassedBothKnown}
use Rattle.world.proofs.Places.{same_some, nth_in, nth_set_same, nth_set_other}
use Rattle.world.proofs.Steps.{book_sound, arises_good}
use Rattle.world.proofs.Passed.{names_named, pass_did}

-- the books after a pass each way
abbrev second_after : Book → Book → Book
second_after A B = (passed A B).1

abbrev first_after : Book → Book → Book
first_after A B = (passed (second_after A B) A).1

module _ (A B : Book) (s : Sane A) (t : Sane B) (one : OneChange A.changes B.changes) where
  abbrev B₁ : Book
  B₁ = second_after A B

  abbrev A₁ : Book
  A₁ = first_after A B

  kept : Sane B₁ × Within B.changes B₁.changes
  kept = received_sane B t _ (letter_formed A.changes (book_sound A s) _)

  sent_on : Within (sent (names_of B.changes) A.changes) B₁.changes → Within A.changes B₁.changes
  sent_on all c i = elim (choice _ (decides_among c.name (names_of B.changes))) [
    | yes k ↦ let (d, j, e) = names_named B.changes c.name k in kept.1 c (rw (one c d i j (sym e)) j)
    | no other ↦ all c (((sent_sends (names_of B.changes) A.changes (book_sound A s)).exactly c).1 (i, other))
  ]

  b₁ : Sound B₁.changes
  b₁ = book_sound B₁ kept.0

  kept_back : Sane A₁ × Within A.changes A₁.changes
  kept_back = received_sane A s _ (letter_formed B₁.changes b₁ _)

  -- once all of both letters is there, both have the same
  module _ (all : Within (sent (names_of B.changes) A.changes) B₁.changes) (all_back : Within (sent (names_of A.changes) B₁.changes) A₁.changes)
      (waits : StillWaits A A₁ B₁) where
    to : Within A₁.changes B₁.changes
    to c i = elim (came_from _ A s (letter_formed B₁.changes b₁ _) c i) [
      | inl (inl j) ↦ (((sent_sends (names_of A.changes) B₁.changes b₁).exactly c).0 j).0
      | inl (inr j) ↦ sent_on all c j
      | inr j ↦ elim (waits c j) [ inl k ↦ absurd (kept_back.0.orderly.outside c k (c, i, refl)) | inr k ↦ k ]
    ]

    from : Within B₁.changes A₁.changes
    from c i = elim (choice _ (decides_among c.name (names_of A.changes))) [
      | yes k ↦ let (d, j, e) = names_named A.changes c.name k in kept_back.1 c (rw (sound_one B₁.changes b₁ c d i (sent_on all d j) (sym e)) j)
      | no other ↦ all_back c (((sent_sends (names_of A.changes) B₁.changes b₁).exactly c).1 (i, other))
    ]

    pub alike : Alike A₁ B₁
    alike = ((to, from), same_bytes shown_one_way A₁ B₁ kept_back.0 kept.0 (to, from))

-- where nothing is refused, all of both letters is there
alike_none_refused :
    (A B : Book) → Sane A → Sane B → OneChange A.changes B.changes → NoneRefused (passed A B).0 → NoneRefused (passed (second_after A B) A).0 →
    StillWaits A (first_after A B) (second_after A B) → Alike (first_after A B) (second_after A B)
alike_none_refused A B s t one none none_back =
    alike A B s t one (all_taken A.changes (book_sound A s) B t _ (names_named B.changes) none)
    (all_taken (second_after A B).changes (b₁ A B s t one) A s _ (names_named A.changes) none_back)

-- so it is where nothing is refused but what is known
module _ (A B : Book) (s : Sane A) (t : Sane B) (one : OneChange (held A) (held B)) where
  one_here : OneChange A.changes (held B)
  one_here c d i j = one c d (in_left A.changes A.waiting c i) j

  -- a book's own changes, and those that wait there
  own : (c d : Change) → In c A.changes → In d (held A) → c.name ≡ d.name → c ≡ d
  own c d i j n = elim (in_either A.changes A.waiting d j) [
    | inl k ↦ sound_one A.changes (book_sound A s) c d i k n
    | inr k ↦ absurd (s.orderly.outside d k (c, i, n))
  ]

  one_back : OneChange (second_after A B).changes (held A)
  one_back c d i j n = elim (came_from _ B t (letter_formed A.changes (book_sound A s) _) c i) [
    | inl (inl k) ↦ own c d (((sent_sends _ A.changes (book_sound A s)).exactly c).0 k).0 j n
    | inl (inr k) ↦ sym (one d c j (in_left B.changes B.waiting c k) (sym n))
    | inr k ↦ sym (one d c j (in_right B.changes B.waiting c k) (sym n))
  ]

  alike_only_known :
      OnlyKnown (passed A B).0 → OnlyKnown (passed (second_after A B) A).0 →
      StillWaits A (first_after A B) (second_after A B) → Alike (first_after A B) (second_after A B)
  alike_only_known only only_back =
      let both : OneChange A.changes B.changes = λ c d i j. one_here c d i (in_left B.changes B.waiting d j) in
      alike A B s t both (all_there A.changes (book_sound A s) B t one_here _ (names_named B.changes) only)
      (all_there (second_after A B).changes (b₁ A B s t both) A s one_back _ (names_named A.changes) only_back)

-- what the passes did, in the world
module _ (i j : ℕ) (A B : Book) (es fs : List Event) (A' B' : Book) (w : EachWay i j A B es fs A' B') where
  sane_first : Sane A
  sane_first = (arises_good w.world w.arises A (nth_in w.world i A w.first)).0

  sane_second : Sane B
  sane_second = (arises_good w.world w.arises B (nth_in w.world j B w.second)).0

  did : (i ≡ j → ⊥) → (es ≡ (passed A B).0) × (fs ≡ (passed (second_after A B) A).0) × (first_after A B ≡ A') × (second_after A B ≡ B')
  did ne =
      let B₂ = second_after A B in
      let A₂ = first_after A B in
      let (es_is, V-is) = pass_did w.world i j A B w.first w.second es w.between w.there in
      let at_i : BookAt w.between i A = subst (λ X. BookAt X i A) (sym V-is) (nth_set_other w.world j i B₂ (λ e. ne (sym e)) ∙ w.first) in
      let at_j : BookAt w.between j B₂ = subst (λ X. BookAt X j B₂) (sym V-is) (nth_set_same w.world j B₂ B w.second) in
      let (fs_is, Z-is) = pass_did w.between j i B₂ A at_j at_i fs w.last w.back in (
        es_is,
        fs_is,
        same_some A₂ A' (sym (nth_set_same w.between i A₂ A at_i) ∙ ap (λ X. slice_get X i) (sym Z-is) ∙ w.first_after),
        same_some B₂ B' (sym at_j ∙ sym (nth_set_other w.between i j A₂ ne) ∙ ap (λ X. slice_get X j) (sym Z-is) ∙ w.second_after),
      )

  -- what holds of the two books by themselves holds of them there; at one place they are one book
  finally : ((i ≡ j → ⊥) → StillWaits A (first_after A B) (second_after A B) → Alike (first_after A B) (second_after A B)) → StillWaits A A' B' → Alike A' B'
  finally books waits = elim (cases_eq i j) [
    | inl e ↦ subst (Alike A') (same_some A' B' (sym w.first_after ∙ ap (slice_get w.last) e ∙ w.second_after)) ((λ c k. k, λ c k. k), λ sheet. refl)
    | inr ne ↦
        let (_, _, a, b) = did ne in
        subst (λ X. StillWaits A X B' → Alike X B') a (subst (λ Y. StillWaits A (first_after A B) Y → Alike (first_after A B) Y) b (books ne)) waits
  ]

pub passed_both : PassedBoth
passed_both i j A B es fs A' B' w one none none_back =
    finally i j A B es fs A' B' w (λ ne.
    let (es_is, fs_is, _, _) = did i j A B es fs A' B' w ne in
    alike_none_refused A B (sane_first i j A B es fs A' B' w) (sane_second i j A B es fs A' B' w) one (subst NoneRefused es_is none) (subst NoneRefused fs_is none_back))

pub passed_both_known : PassedBothKnown
passed_both_known i j A B es fs A' B' w one only only_back =
    finally i j A B es fs A' B' w (λ ne.
    let (es_is, fs_is, _, _) = did i j A B es fs A' B' w ne in
    alike_only_known A B (sane_first i j A B es fs A' B' w) (sane_second i j A B es fs A' B' w) one (subst OnlyKnown es_is only) (subst OnlyKnown fs_is only_back))
