-- That a book which gets a letter, with room for all, then has what both had.
-- Assumes nothing.
use Rattle.std.proofs.Common.{◌≡◌, ℕ, true, ◌⊎◌, List, [], ◌∷◌, ◌++◌, length, refl, ap, ◌∙◌, subst, inl, inr, arith}
use Rattle.std.proofs.lemmas.List.Sums.{sum_by-cons}
use Rattle.change.specs.Membership.{In, Within}
use Rattle.change.specs.Model.{Change}
use Rattle.change.specs.WellFormed.{well_formed}
use Rattle.order.specs.Names.{HasName}
use Rattle.order.specs.Fits.{Fits, Listed, Sound, Closed, OneChange}
use Rattle.order.proofs.Members.{in_left, in_right, in_either}
use Rattle.order.proofs.Deciding.{choice}
use Rattle.order.proofs.Fitting.{fits_more, listed_sound}
use Rattle.order.proofs.OneName.{sound_closed, has_name_lem}
use Rattle.order.proofs.SoundPuts.{sound_formed}
use Rattle.order.proofs.Unions.{union_sound}
use Rattle.order.proofs.ClosedPart.{part_sound}
use Rattle.verdict.proofs.FromNeeds.{decides_among}
use Rattle.history.specs.declared.Outcome.{Outcome}
use Rattle.history.specs.declared.Outcome.TheVariants.{Taken, Waits, Refused}
use Rattle.history.specs.Book.{Book}
use Rattle.history.specs.Taking.{verdict, taken_as, take}
use Rattle.history.specs.Sane.{Sane}
use Rattle.history.specs.Theorems.{Ready, Room}
use Rattle.history.proofs.Verdicts.{taken_is_fits}
use Rattle.history.proofs.Taking.{story, sane_take, came_in}
use Rattle.sending.specs.Sending.{sent}
use Rattle.sending.specs.Relation.{Sends}
use Rattle.sending.specs.Receiving.{received}
use Rattle.sending.specs.Theorems.{Gathered, GetsTheUnion}
use Rattle.sending.proofs.Walks.{sent_sends}
use Rattle.sending.proofs.Closing.{Follows}
use Rattle.sending.proofs.Receiving.{Formed, received_sane, taken_comes, follows_on, letter_formed, letter_follows_in}
use Rattle.sending.proofs.Room.{listed_distinct, no_more_changes, no_more_lines}

-- what is listed before a change, in whatever list, lets it fit the others
listed_before : (L R : List Change) (c : Change) → Listed L → In c L → (HasName R c.name → ⊥) → Within L (c ∷ R) → Fits R c
listed_before [] R c l i new w = absurd i
listed_before (x ∷ L) R c (f, l) (inl e) new w =
    fits_more L R c (λ d j. elim (w d (inr j)) [ inl g ↦ absurd (f.new d j (ap (λ y. y.name) (g ∙ e))) | inr k ↦ k ]) (λ d j n. new (d, j, n)) (rw e f)
listed_before (x ∷ L) R c (f, l) (inr i) new w = listed_before L R c l i new (λ d j. w d (inr j))

-- a change of one sound set fits another that has what it needs, and none of its name, if changes of one name are the same change in both
pub fits_elsewhere : (S R : List Change) → Sound S → Sound R → OneChange S R → (c : Change) → In c S → ((n : ℕ) → In n c.needs → HasName R n) → (HasName R c.name → ⊥) → Fits R c
fits_elsewhere S R s r one c i needs new = let (L, l, (to, from)) = with_c in listed_before L R c l (from c (inl refl)) new to
  where
    closed : Closed (c ∷ R)
    closed d (inl e) n j = let (x, k, f) = needs n (subst (λ y. In n y.needs) e j) in (x, inr k, f)
    closed d (inr k) n j = let (x, h, f) = sound_closed R r d k n j in (x, inr h, f)

    with_c : Sound (c ∷ R)
    with_c = part_sound (S ++ R) (c ∷ R) (union_sound S R s r one) (λ d j. elim j [ inl e ↦ rw e (in_left S R c i) | inr k ↦ in_right S R d k ]) closed

pub waiting_from : (B : Book) → Sane B → (c : Change) → well_formed c ≡ true → Within (take B c).1.waiting (c ∷ B.waiting)
waiting_from B s c formed d = go (verdict B c) refl
  where
    go : (o : Outcome) → verdict B c ≡ o → In d (taken_as o B c).1.waiting → In d (c ∷ B.waiting)
    go Taken e i = inr ((story B s c formed e).fewer d i)
    go Waits e i = elim (in_either B.waiting (c ∷ []) d i) [ inl j ↦ inr j | inr (inl f) ↦ inl f | inr (inr none) ↦ absurd none ]
    go (Refused r) e i = inr i

module _ (U S : List Change) (sound : Sound S) where
  -- a change whose needs are there comes in, or was there
  module _ (B : Book) (s : Sane B) (g : Gathered U S B) (c : Change) (i : In c S) (ready : Ready B c) where
    abbrev here : List Change
    here = B.changes

    well : well_formed c ≡ true
    well = sound_formed S sound c i

    module _ (new : HasName here c.name → ⊥) where
      fits : Fits here c
      fits = fits_elsewhere S here sound (listed_sound here s.orderly.listed) (λ a b j k. g.one a b (g.sender a j) (g.receiver b k)) c i ready new

      -- one of its name that waits is the change itself, and has its needs
      none_waits : HasName B.waiting c.name → ⊥
      none_waits (d, j, e) =
          let same = g.one d c (g.waiting d j) (g.sender c i) e in
          let (n, k, lacks) = s.lacking d j in
          lacks (ready n (subst (λ x. In n x.needs) same k))

      room : Room B c
      room =
          let all : Within (c ∷ here) U = λ d j. elim j [ inl e ↦ rw e (g.sender c i) | inr k ↦ g.receiver d k ] in
          let apart = listed_distinct (c ∷ here) (fits, s.orderly.listed) in (
            omega (arith, no_more_changes (c ∷ here) U apart all, g.few_changes),
            omega (arith, sum_by-cons (λ d. length d.adds) c here, no_more_lines (c ∷ here) U apart all, g.few_lines),
          )

    comes : In c (take B c).1.changes
    comes = elim (choice _ (has_name_lem here c.name)) [
      | yes (d, j, e) ↦ (came_in B s c well c).1 (inl (subst (λ x. In x here) (g.one d c (g.receiver d j) (g.sender c i) e) j))
      | no new ↦ taken_comes B s c well ((taken_is_fits B s c well).1 (fits new, none_waits new, room new))
    ]

    gathered_on : Gathered U S (take B c).1
    gathered_on = record {
      one = g.one;
      sender = g.sender;
      receiver = λ d j. elim ((came_in B s c well d).0 j) [ inl k ↦ g.receiver d k | inr (inl e, _) ↦ rw e (g.sender c i) | inr (inr k, _) ↦ g.waiting d k ];
      waiting = λ d j. elim (waiting_from B s c well d j) [ inl e ↦ rw e (g.sender c i) | inr k ↦ g.waiting d k ];
      few_changes = g.few_changes;
      few_lines = g.few_lines;
    }

  all_come : (cs : List Change) (B : Book) → Sane B → Gathered U S B → Within cs S → Follows (HasName B.changes) cs → Within cs (received B cs).1.changes
  all_come [] B s g w follows c i = absurd i
  all_come (x ∷ cs) B s g w (needs, follows) c i =
      let j = w x (inl refl) in
      let formed = sound_formed S sound x j in
      let sane = sane_take B s x formed in
      let came = comes B s g x j needs in
      elim i [
        | inl e ↦ (received_sane (take B x).1 sane cs (λ d k. sound_formed S sound d (w d (inr k)))).1 c (rw e came)
        | inr k ↦ all_come cs (take B x).1 sane (gathered_on B s g x j needs) (λ d h. w d (inr h)) (follows_on B s x formed (x, came, refl) cs follows) c k
      ]

-- what a book has after a letter it had, or got, or waited there
pub came_from : (cs : List Change) (B : Book) → Sane B → Formed cs → (d : Change) → In d (received B cs).1.changes → (In d cs ⊎ In d B.changes) ⊎ In d B.waiting
came_from [] B s formed d i = inl (inr i)
came_from (c ∷ cs) B s formed d i =
    let well = formed c (inl refl) in
    elim (came_from cs (take B c).1 (sane_take B s c well) (λ x j. formed x (inr j)) d i) [
      | inl (inl j) ↦ inl (inl (inr j))
      | inl (inr j) ↦ elim ((came_in B s c well d).0 j) [ inl k ↦ inl (inr k) | inr (inl e, _) ↦ inl (inl (inl e)) | inr (inr k, _) ↦ inr k ]
      | inr j ↦ elim (waiting_from B s c well d j) [ inl e ↦ inl (inl (inl e)) | inr k ↦ inr k ]
    ]

pub gets_the_union : GetsTheUnion
gets_the_union S sound B s has named U g d = (
  λ h. elim h [
    | inl i ↦ elim (choice _ (decides_among d.name has)) [
      | yes k ↦ let (x, j, e) = named d.name k in stays d (subst (λ y. In y B.changes) (g.one x d (g.receiver x j) (g.sender d i) e) j)
      | no none ↦ all_come U S sound letter B s g (λ c j. ((sends.exactly c).0 j).0) (letter_follows_in S sound has B.changes named) d ((sends.exactly d).1 (i, none))
    ]
    | inr i ↦ stays d i
  ],
  λ i. elim (came_from letter B s (letter_formed S sound has) d i) [ inl (inl j) ↦ inl (inl ((sends.exactly d).0 j).0) | inl (inr j) ↦ inl (inr j) | inr j ↦ inr j ],
)
  where
    letter : List Change
    letter = sent has S

    sends : Sends has S letter
    sends = sent_sends has S sound

    stays : Within B.changes (received B letter).1.changes
    stays = (received_sane B s letter (letter_formed S sound has)).1
