-- Where the changes of a book come from: what it takes, and nothing else.
-- Has M B: all that the book B has, or that waits there, is of M. From M A B: the book A has become B, by taking none but changes of M. Froms M A d: that, unless d is a refusal.
-- Known W M: what holds of a world in which M are all changes ever made: changes of one name are the same, a plant's count is at or above all its changes, and no plant has two books.
-- Assumes nothing.
use Rattle.std.proofs.Common.{◌≡◌, ℕ, ◌≤◌, true, ◌⊎◌, List, [], ◌∷◌, set, Ok, Err, sym, refl, ap, ◌∙◌, subst, inl, inr, arith}
use Rattle.std.specs.List.{slice_get}
use Rattle.std.proofs.lemmas.Bool.{cases_eq}
use Rattle.change.specs.Membership.{In, Within}
use Rattle.change.specs.Model.{Change, count_of, plant_of}
use Rattle.change.specs.WellFormed.{well_formed}
use Rattle.order.specs.Fits.{OneChange}
use Rattle.history.specs.Book.{Book}
use Rattle.history.specs.Taking.{take}
use Rattle.history.specs.Sane.{Sane}
use Rattle.history.proofs.Taking.{sane_take, came_in, take_counts}
use Rattle.sending.specs.Receiving.{received}
use Rattle.sending.proofs.Receiving.{Formed}
use Rattle.sending.proofs.Union.{waiting_from}
use Rattle.world.specs.Calls.{Done}
use Rattle.world.specs.World.{World}
use Rattle.world.specs.Whole.{BookAt}
use Rattle.world.proofs.Places.{same_some, nth_set_same, nth_set_other}

abbrev pub Has : List Change → Book → Type 0
Has M B = Within B.changes M × Within B.waiting M

pub record From (M : List Change) (A B : Book) : Type 0 where
  pub plant : B.plant ≡ A.plant
  pub highest : A.highest ≤ B.highest
  pub has : Has M B

abbrev pub Froms : List Change → Book → Done → Type 0
Froms M A (Ok q) = From M A q.1
Froms M A (Err e) = Unit {0}

module _ (M : List Change) where
  pub take_from : (B : Book) → Sane B → Has M B → (c : Change) → well_formed c ≡ true → In c M → From M B (take B c).1
  take_from B s (changes, waiting) c formed i =
      let (plant, highest) = take_counts B s c formed in
      record {
        plant = plant;
        highest = highest;
        has = (
          λ d j. elim ((came_in B s c formed d).0 j) [ inl k ↦ changes d k | inr (inl e, _) ↦ rw e i | inr (inr k, _) ↦ waiting d k ],
          λ d j. elim (waiting_from B s c formed d j) [ inl e ↦ rw e i | inr k ↦ waiting d k ],
        );
      }

  pub received_from : (cs : List Change) (B : Book) → Sane B → Has M B → Formed cs → Within cs M → From M B (received B cs).1
  received_from [] B s has formed w = record { plant = refl; highest = omega arith; has = has }
  received_from (c ∷ cs) B s has formed w =
      let well = formed c (inl refl) in
      let one = take_from B s has c well (w c (inl refl)) in
      let more = received_from cs (take B c).1 (sane_take B s c well) one.has (λ d i. formed d (inr i)) (λ d i. w d (inr i)) in
      record { plant = more.plant ∙ one.plant; highest = omega (arith, one.highest, more.highest); has = more.has }

pub record Known (W : World) (M : List Change) : Type 0 where
  pub one : OneChange M M
  pub has : (i : ℕ) (B : Book) → BookAt W i B → Has M B
  pub counted : (i : ℕ) (B : Book) → BookAt W i B → (c : Change) → In c M → plant_of c.name ≡ B.plant → count_of c.name ≤ B.highest
  pub apart : (i j : ℕ) (A B : Book) → BookAt W i A → BookAt W j B → A.plant ≡ B.plant → i ≡ j

-- one book has moved on, and the changes ever made are now M'
module _ (W : World) (M M' : List Change) (known : Known W M) (i : ℕ) (A B : Book) (here : BookAt W i A) (from : From M' A B)
    (more : Within M M') (one : OneChange M' M') (new : (c : Change) → In c M' → In c M ⊎ ((plant_of c.name ≡ A.plant) × (count_of c.name ≤ B.highest))) where
  -- the book at a place is the new one, or it was there
  either : (j : ℕ) (X : Book) → BookAt (set W i B) j X → ((i ≡ j) × (B ≡ X)) ⊎ ((i ≡ j → ⊥) × BookAt W j X)
  either j X there = elim (cases_eq i j) [
    | inl e ↦ inl (e, same_some B X (sym (nth_set_same W i B A here) ∙ ap (slice_get (set W i B)) e ∙ there))
    | inr ne ↦ inr (ne, sym (nth_set_other W i j B ne) ∙ there)
  ]

  pub known_on : Known (set W i B) M'
  known_on = record { one = one; has = has; counted = counted; apart = apart }
    where
      has : (j : ℕ) (X : Book) → BookAt (set W i B) j X → Has M' X
      has j X there = elim (either j X there) [
        | inl (_, e) ↦ subst (Has M') e from.has
        | inr (_, was) ↦ let (changes, waiting) = known.has j X was in (λ d k. more d (changes d k), λ d k. more d (waiting d k))
      ]

      counted : (j : ℕ) (X : Book) → BookAt (set W i B) j X → (c : Change) → In c M' → plant_of c.name ≡ X.plant → count_of c.name ≤ X.highest
      counted j X there c k p = elim (either j X there) [
        | inl (_, e) ↦ elim (new c k) [
          | inl old ↦ subst (λ Y. count_of c.name ≤ Y.highest) e (omega (arith, known.counted i A here c old (p ∙ ap (λ Y. Y.plant) (sym e) ∙ from.plant), from.highest))
          | inr (_, low) ↦ subst (λ Y. count_of c.name ≤ Y.highest) e low
        ]
        | inr (ne, was) ↦ elim (new c k) [
          | inl old ↦ known.counted j X was c old p
          | inr (q, _) ↦ absurd (ne (known.apart i j A X here was (sym q ∙ p)))
        ]
      ]

      plant_was : (j : ℕ) (X : Book) → BookAt (set W i B) j X → (Y : Book) × BookAt W j Y × (Y.plant ≡ X.plant)
      plant_was j X there = elim (either j X there) [
        | inl (e, same) ↦ (A, ap (slice_get W) (sym e) ∙ here, sym from.plant ∙ ap (λ Y. Y.plant) same)
        | inr (_, was) ↦ (X, was, refl)
      ]

      apart : (j k : ℕ) (X Y : Book) → BookAt (set W i B) j X → BookAt (set W i B) k Y → X.plant ≡ Y.plant → j ≡ k
      apart j k X Y x y p =
          let (X₀, x₀, xp) = plant_was j X x in
          let (Y₀, y₀, yp) = plant_was k Y y in
          known.apart j k X₀ Y₀ x₀ y₀ (xp ∙ p ∙ sym yp)
