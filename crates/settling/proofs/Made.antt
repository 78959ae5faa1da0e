-- Making a change on a book where nothing that waits needs it: it comes in, and nothing else happens.
-- Assumes nothing.
use Rattle.std.proofs.Common.{◌≡◌, ℕ, zero, suc, ◌+◌, ◌<◌, ◌≤◌, Bool, true, false, cond, ◌&&◌, eqb, ltb, List, [], ◌∷◌, length, Some, None, Ok, filter, Option, sym, refl, ap, ◌∙◌, subst, inl, inr, arith}
use Rattle.std.proofs.lemmas.List.Sums.{sum_by-cons}
use Rattle.std.proofs.lemmas.Bool.{cases_eq, cond-true, cond-false, and_from, eq-eqb, lt-ltb, and_right, and_left, ne_eqb, le-ltb}
use Rattle.change.specs.declared.refusal.Refusal.{Refusal}
use Rattle.change.specs.Membership.{In}
use Rattle.change.specs.Model.{Change, count_of, plant_of}
use Rattle.order.specs.Fits.{Fits}
use Rattle.history.specs.declared.Outcome.TheVariants.{Taken}
use Rattle.history.specs.declared.Event.{Event}
use Rattle.history.specs.Book.{Book, is_ready, enter, counting, counting_all, next_count, next_name}
use Rattle.history.specs.Sane.{Sane}
use Rattle.history.specs.Taking.{event, verdict, lowest, lowest_ready, followed, try_then, settled, taken_as, take}
use Rattle.history.proofs.Names.{decides_ready}
use Rattle.history.proofs.Counts.{counting_all_rises, counting_all_counts, next_of_plant}
use Rattle.history.proofs.Taking.{sane_take}
use Rattle.making.specs.Request.{Request}
use Rattle.making.specs.Making.{change_for, refusal, unless, make, made}
use Rattle.making.proofs.Made.{made_fits}
use Rattle.settling.specs.Settled.{RoomFor, NoneAwaited}

kept_none : {X : Type 0} (test : X → Bool) (xs : List X) → ((x : X) → In x xs → test x ≡ true → ⊥) → filter test xs ≡ []
kept_none test [] none = refl
kept_none {X} test (x ∷ xs) none = go (test x) refl (kept_none test xs (λ y i. none y (inr i)))
  where
    go : (b : Bool) → test x ≡ b → filter test xs ≡ [] → cond b (x ∷ filter test xs) (filter test xs) ≡ []
    go true e rest = absurd (none x (inl refl) e)
    go false e rest = rest

settled_still : (n : ℕ) (A : Book) → lowest_ready A ≡ None → settled n A ≡ ([], A)
settled_still zero A e = refl
settled_still (suc n) A e = ap (try_then (settled n) A) e

unless_like : {X Y : Type 0} (o : Option Refusal) (x : X) (y : Y) → unless o x ≡ Ok x → unless o y ≡ Ok y
unless_like None x y e = refl
unless_like (Some r) x y e = absurd (let z : ◌≡◌ {A = ℕ} 0 1 = cc in omega arith)

counting_still : (plant : ℕ) (c : Change) (n : ℕ) → (plant_of c.name ≡ plant → count_of c.name ≤ n) → counting plant c n ≡ n
counting_still plant c n most = cond-false (own && ltb n (count_of c.name)) (count_of c.name) n (elim (cases_eq (plant_of c.name) plant) [
  | inl e ↦ and_right own _ (le-ltb n (count_of c.name) (most e))
  | inr ne ↦ and_left own _ (ne_eqb (plant_of c.name) plant ne)
])
  where
    own : Bool
    own = eqb (plant_of c.name) plant

counting_all_still : (plant : ℕ) (S : List Change) (n : ℕ) → ((d : Change) → In d S → plant_of d.name ≡ plant → count_of d.name ≤ n) → counting_all plant S n ≡ n
counting_all_still plant [] n most = refl
counting_all_still plant (c ∷ S) n most = ap (counting plant c) (counting_all_still plant S n (λ d i. most d (inr i))) ∙ counting_still plant c n (most c (inl refl))

module _ (B : Book) (s : Sane B) (low : B.plant < 16) (still : NoneAwaited B) (r : Request) (ok : make B r ≡ Ok (change_for B r)) where
  abbrev c : Change
  c = change_for B r

  fits_and_taken : Fits B.changes c × (verdict B c ≡ Taken)
  fits_and_taken = made_fits B s low r c ok

  pub fits : Fits B.changes c
  fits = fits_and_taken.0

  none_ready : (d : Change) → In d B.waiting → is_ready (enter B c) d ≡ true → ⊥
  none_ready d i t =
      let (n, j, missing) = s.lacking d i in
      let (x, k, e) = (decides_ready (c ∷ B.changes) d).0 t n j in
      elim k [
        | inl f ↦ (let own : n ≡ next_name B = sym e ∙ ap (λ y. y.name) f in omega (arith, still d i n j (next_of_plant B low n own)))
        | inr l ↦ missing (x, l, e)
      ]

  take_is : take B c ≡ (event (next_name B) Taken ∷ [], enter B c)
  take_is =
      ap (λ o. taken_as o B c) fits_and_taken.1
      ∙ ap (followed (event (next_name B) Taken)) (settled_still (length B.waiting) (enter B c) (ap lowest (kept_none (is_ready (enter B c)) B.waiting none_ready)))

  pub made_is : made B r ≡ Ok (event (next_name B) Taken ∷ [], enter B c)
  made_is = unless_like (refusal B r) c (take B c) ok ∙ ap Ok take_is

  pub enter_sane : Sane (enter B c)
  enter_sane = subst (λ (q : List Event × Book). Sane q.1) take_is (sane_take B s c fits.formed)

  counted : counting B.plant c B.highest ≡ next_count B
  counted =
      let own = next_of_plant B low (next_name B) refl in
      let count : count_of (next_name B) ≡ next_count B = omega arith in
      cond-true _ _ _ (and_from _ _ (eq-eqb _ _ own) (lt-ltb _ _ (omega (arith, counting_all_rises B.plant B.waiting B.highest)))) ∙ count

  pub next_count_lem : next_count (enter B c) ≡ suc (next_count B)
  next_count_lem =
      ap suc (ap (counting_all B.plant B.waiting) counted
      ∙ counting_all_still B.plant B.waiting (next_count B) (λ d i e. omega (arith, counting_all_counts B.plant B.waiting B.highest d i e)))

  pub next_name_lem : next_name (enter B c) ≡ next_name B + 16
  next_name_lem = omega (arith, next_count_lem)

  pub still_none : NoneAwaited (enter B c)
  still_none d i n j e = omega (arith, still d i n j e, next_count_lem)

  pub room_left : (k l : ℕ) → RoomFor B (suc k) (length r.adds + l) → RoomFor (enter B c) k l
  room_left k l (changes, lines, names) = (
    omega arith,
    omega (arith, sum_by-cons (λ d. length d.adds) c B.changes),
    omega (arith, next_count_lem),
  )
