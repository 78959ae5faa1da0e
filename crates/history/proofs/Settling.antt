-- What trying the changes that wait does to a book, one after the other.
-- Story B es A: what the events es tell of the way from the book B to the book A, on which changes that waited were tried.
-- CountGoesOn B A: A is of the plant of B, whose count has not fallen. NoneReady B: nothing that waits is ready.
-- Assumes nothing.
use Rattle.std.proofs.Common.{◌≡◌, ℕ, zero, suc, ◌<◌, ◌≤◌, true, not, eqb, ◌⊎◌, List, [], ◌∷◌, ◌++◌, length, Some, None, Option, sym, refl, ap, ◌∙◌, subst, inl, inr, arith}
use Rattle.std.proofs.lemmas.Bool.{cases_eq, eq-eqb, ne_eqb, not_from_true, not_from_false}
use Rattle.change.specs.declared.refusal.Refusal.{Refusal}
use Rattle.change.specs.Membership.{In, Within}
use Rattle.change.specs.Model.{Change}
use Rattle.order.specs.Theorems.{without}
use Rattle.order.proofs.Members.{kept_has, in_left, in_right, in_either}
use Rattle.history.specs.declared.Outcome.{Outcome}
use Rattle.history.specs.declared.Outcome.TheVariants.{Taken, Refused}
use Rattle.history.specs.declared.Event.{Event}
use Rattle.history.specs.Book.{Book, is_ready, enter, waits_no_more}
use Rattle.history.specs.Taking.{event, admitted, lowest_ready, after, tried, try_then, settled}
use Rattle.history.specs.Sane.{Orderly}
use Rattle.history.specs.Theorems.{TurnedAway, Turned}
use Rattle.history.proofs.Names.{kept_within, without_none, in_some, distinct_one, length_kept_less}
use Rattle.history.proofs.Outcomes.{taken_goes, admitted_passes, admitted_either}
use Rattle.history.proofs.Lowest.{next_waits, none_ready}
use Rattle.history.proofs.Moments.{counting_rises, enter_orderly, no_more_orderly}
use Rattle.history.proofs.Verdicts.{fits_by_tests, decides_room}

abbrev pub CountGoesOn : Book → Book → Type 0
CountGoesOn B A = (A.plant ≡ B.plant) × (B.highest ≤ A.highest)

pub record Story (B : Book) (es : List Event) (A : Book) : Type 0 where
  pub orderly : Orderly A
  pub stays : Within B.changes A.changes
  pub came : (d : Change) → In d A.changes → In d B.changes ⊎ (In d B.waiting × In (event d.name Taken) es)
  pub told : (e : Event) → In e es → (d : Change) × In d B.waiting × (d.name ≡ e.name.0) × (e.outcome ≡ Taken → In d A.changes)
  pub fewer : Within A.waiting B.waiting
  pub counts : CountGoesOn B A
  pub ends : (d : Change) → In d B.waiting → In d A.waiting ⊎ (In d A.changes ⊎ Turned es d)

story_none : (B : Book) → Orderly B → Story B [] B
story_none B o = record {
  orderly = o;
  stays = λ d i. i;
  came = λ d i. inl i;
  told = λ e i. absurd i;
  fewer = λ d i. i;
  counts = (refl, omega arith);
  ends = λ d i. inl i;
}

story_then : (B : Book) (es : List Event) (A : Book) (fs : List Event) (Z : Book) → Story B es A → Story A fs Z → Story B (es ++ fs) Z
story_then B es A fs Z s t = record {
  orderly = t.orderly;
  stays = λ d i. t.stays d (s.stays d i);
  came = λ d i. elim (t.came d i) [
    | inl j ↦ elim (s.came d j) [ inl k ↦ inl k | inr (k, e) ↦ inr (k, in_left es fs _ e) ]
    | inr (j, e) ↦ inr (s.fewer d j, in_right es fs _ e)
  ];
  told = λ e i. elim (in_either es fs e i) [
    | inl j ↦ let (d, k, n, taken) = s.told e j in (d, k, n, λ f. t.stays d (taken f))
    | inr j ↦ let (d, k, n, taken) = t.told e j in (d, s.fewer d k, n, taken)
  ];
  fewer = λ d i. s.fewer d (t.fewer d i);
  counts = (t.counts.0 ∙ s.counts.0, omega arith);
  ends = λ d i. elim (s.ends d i) [
    | inl j ↦ elim (t.ends d j) [ inl k ↦ inl k | inr (inl k) ↦ inr (inl k) | inr (inr (r, away, k)) ↦ inr (inr (r, away, in_right es fs _ k)) ]
    | inr (inl j) ↦ inr (inl (t.stays d j))
    | inr (inr (r, away, j)) ↦ inr (inr (r, away, in_left es fs _ j))
  ];
}

module _ (B : Book) (o : Orderly B) (c : Change) (i : In c B.waiting) where
  abbrev others : Book
  others = waits_no_more B c.name

  -- the other changes wait as they did
  apart : (d : Change) → In d B.waiting → (d ≡ c) ⊎ In d others.waiting
  apart d j = elim (cases_eq d.name c.name) [
    | inl e ↦ inl (distinct_one B.waiting o.distinct d c j i e)
    | inr ne ↦ inr (kept_has _ B.waiting d j (not_from_false _ (ne_eqb _ _ ne)))
  ]

  story_taken : is_ready B c ≡ true → admitted B c ≡ Taken → Story B (event c.name Taken ∷ []) (enter others c)
  story_taken ready e =
      let (related, ordered, room) = admitted_passes B c e in
      let fits = fits_by_tests B.changes o.listed c (o.formed c i) (o.outside c i) ready related ordered in
      record {
        orderly = enter_orderly others (no_more_orderly B o c.name) c fits (without_none c.name B.waiting) ((decides_room B c).0 room);
        stays = λ d j. inr j;
        came = λ d j. elim j [ inl f ↦ inr (rw f i, inl (rw f refl)) | inr k ↦ inl k ];
        told = λ x j. elim j [ inl f ↦ (c, i, ap (λ y. y.name.0) (sym f), λ _. inl refl) | inr none ↦ absurd none ];
        fewer = λ d. kept_within _ B.waiting d;
        counts = (refl, counting_rises B.plant c B.highest);
        ends = λ d j. elim (apart d j) [ inl f ↦ inr (inl (inl f)) | inr k ↦ inl k ];
      }

  story_refused : (r : Refusal) → TurnedAway r → Story B (event c.name (Refused r) ∷ []) others
  story_refused r away = record {
    orderly = no_more_orderly B o c.name;
    stays = λ d j. j;
    came = λ d j. inl j;
    told = λ x j. elim j [ inl f ↦ (c, i, ap (λ y. y.name.0) (sym f), λ g. absurd (taken_goes r (ap (λ y. y.outcome) (sym f) ∙ g))) | inr none ↦ absurd none ];
    fewer = λ d. kept_within _ B.waiting d;
    counts = (refl, omega arith);
    ends = λ d j. elim (apart d j) [ inl f ↦ inr (inr (r, away, inl (rw f refl))) | inr k ↦ inl k ];
  }

-- trying the change that is next, once
module _ (B : Book) (c : Change) where
  story_tried : Orderly B → lowest_ready B ≡ Some c → Story B (event c.name (admitted B c) ∷ []) (tried B c)
  story_tried o next =
      let (i, ready) = next_waits B c next in
      elim (admitted_either B c) [
        | inl e ↦ subst TriedAs (sym e) (story_taken B o c i ready e)
        | inr (r, away, e) ↦ subst TriedAs (sym e) (story_refused B o c i r away)
      ]
    where
      TriedAs : Outcome → Type 0
      TriedAs x = Story B (event c.name x ∷ []) (after x (waits_no_more B c.name) c)

  tried_waiting : (tried B c).waiting ≡ without c.name B.waiting
  tried_waiting = elim (admitted_either B c) [ inl e ↦ rw e | inr (r, away, e) ↦ rw e ]

  tried_fewer : lowest_ready B ≡ Some c → length (tried B c).waiting < length B.waiting
  tried_fewer next =
      rw tried_waiting
      (length_kept_less (λ d. not (eqb d.name c.name)) B.waiting c (next_waits B c next).0 (not_from_true _ (eq-eqb c.name c.name refl)))

pub settled_story : (n : ℕ) (B : Book) → Orderly B → Story B (settled n B).0 (settled n B).1
settled_story zero B o = story_none B o
settled_story (suc n) B o = go (lowest_ready B) refl (settled_story n)
  where
    go : (next : Option Change) → lowest_ready B ≡ next → ((A : Book) → Orderly A → Story A (settled n A).0 (settled n A).1) →
        Story B (try_then (settled n) B next).0 (try_then (settled n) B next).1
    go None e rest = story_none B o
    go (Some c) e rest = let s = story_tried B c o e in story_then B (event c.name (admitted B c) ∷ []) (tried B c) _ _ s (rest (tried B c) s.orderly)

abbrev pub NoneReady : Book → Type 0
NoneReady B = (d : Change) → In d B.waiting → is_ready B d ≡ true → ⊥

-- With as many tries as there are changes that wait, none that still waits is ready.
pub settled_none_ready : (n : ℕ) (B : Book) → length B.waiting ≤ n → NoneReady (settled n B).1
settled_none_ready zero B few = λ d i t. omega (arith, in_some d B.waiting i)
settled_none_ready (suc n) B few = go (lowest_ready B) refl (settled_none_ready n)
  where
    go : (next : Option Change) → lowest_ready B ≡ next → ((A : Book) → length A.waiting ≤ n → NoneReady (settled n A).1) → NoneReady (try_then (settled n) B next).1
    go None e rest = none_ready B e
    go (Some c) e rest = rest (tried B c) (omega (arith, tried_fewer B c e))
