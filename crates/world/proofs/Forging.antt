-- That where nothing is forged, changes of one name are the same change in all books: every change of the world was made there, and a plant's next count is above all that it made.
-- Assumes nothing.
use Rattle.std.proofs.Common.{◌≡◌, ℕ, zero, suc, ◌<◌, ◌≤◌, Bool, true, false, cond, ◌⊎◌, List, [], ◌∷◌, ◌++◌, Some, None, Ok, Err, Option, sym, refl, ap, ◌∙◌, subst, inl, inr, arith}
use Rattle.std.specs.List.{slice_get}
use Rattle.change.specs.declared.refusal.Refusal.{Refusal}
use Rattle.change.specs.declared.refusal.Refusal.TheVariants.{Needed}
use Rattle.change.specs.Membership.{In, Within}
use Rattle.change.specs.Model.{Change, count_of, plant_of}
use Rattle.order.specs.Fits.{Fits, OneChange}
use Rattle.order.proofs.Members.{in_either}
use Rattle.history.specs.declared.Outcome.TheVariants.{Taken}
use Rattle.history.specs.Book.{Book, empty}
use Rattle.history.specs.Taking.{verdict, take, is_free, taken_back}
use Rattle.history.specs.Sane.{Sane}
use Rattle.history.proofs.Names.{kept_within}
use Rattle.history.proofs.Taking.{sane_take}
use Rattle.history.proofs.Counts.{next_of_plant, next_above}
use Rattle.making.specs.Request.{Request}
use Rattle.making.specs.Making.{change_for, refusal, unless}
use Rattle.making.proofs.Made.{made_fits}
use Rattle.sending.specs.Theorems.{held}
use Rattle.sending.proofs.Walks.{sent_sends}
use Rattle.sending.proofs.Receiving.{taken_comes, letter_formed}
use Rattle.world.specs.Calls.{Done}
use Rattle.world.specs.World.{World, Action, makes, takes, takes_back, passes, passed_from, concluded, acted_on, acted, played, begun}
use Rattle.world.specs.Whole.{BookAt}
use Rattle.world.specs.Forging.{if_made, made_on, made_by, Genuine, Honest}
use Rattle.world.specs.Theorems.{Different, NothingForged}
use Rattle.world.proofs.Places.{none_is_not_some, same_some, nth_in, in_nth}
use Rattle.world.proofs.Taken.{taken_either}
use Rattle.world.proofs.Steps.{book_sound, AllGood, letter_is_formed, acted_good, begun_good}
use Rattle.world.proofs.Sources.{Has, Froms, From, take_from, received_from, Known, known_on}

-- nothing new is made
known_done : (W : World) (M : List Change) → Known W M → (i : ℕ) (A : Book) → BookAt W i A → (d : Done) → Froms M A d → Known (concluded W i d).1 M
known_done W M known i A here (Ok (es, B)) from = known_on W M M known i A B here from (λ c k. k) known.one (λ c k. inl k)
known_done W M known i A here (Err e) from = known

-- a change is made on the book A
module _ (W : World) (all : AllGood W) (M : List Change) (known : Known W M) (i : ℕ) (A : Book) (here : BookAt W i A) (r : Request) where
  known_made : (o : Option Refusal) → refusal A r ≡ o → Known (concluded W i (unless o (take A (change_for A r)))).1 (if_made (unless o (change_for A r)) ++ M)
  known_made (Some e) _ = known
  known_made None e = known_on W M (c ∷ M) known i A (take A c).1 here from (λ d k. inr k) one new
    where
      c : Change
      c = change_for A r

      sane : Sane A
      sane = (all A (nth_in W i A here)).0

      low : A.plant < 16
      low = (all A (nth_in W i A here)).1

      fits : Fits A.changes c × (verdict A c ≡ Taken)
      fits = made_fits A sane low r (change_for A r) (ap (λ x. unless x (change_for A r)) e)

      from : From (c ∷ M) A (take A c).1
      from = let (changes, waiting) = known.has i A here in take_from (c ∷ M) A sane (λ d k. inr (changes d k), λ d k. inr (waiting d k)) c fits.0.formed (inl refl)

      -- no change made before has the name
      fresh : (d : Change) → In d M → d.name ≡ c.name → ⊥
      fresh d k n = omega (arith, known.counted i A here d k (next_of_plant A low d.name n), next_above A low d.name n)

      one : OneChange (c ∷ M) (c ∷ M)
      one x y (inl a) (inl b) n = a ∙ sym b
      one x y (inl a) (inr b) n = absurd (fresh y b (sym n ∙ ap (λ z. z.name) a))
      one x y (inr a) (inl b) n = absurd (fresh x a (n ∙ ap (λ z. z.name) b))
      one x y (inr a) (inr b) n = known.one x y a b n

      new : (d : Change) → In d (c ∷ M) → In d M ⊎ ((plant_of d.name ≡ A.plant) × (count_of d.name ≤ (take A c).1.highest))
      new d (inl f) =
          let plant = next_of_plant A low d.name (ap (λ z. z.name) f) in
          let there : In d (take A c).1.changes = rw f (taken_comes A sane c fits.0.formed fits.1) in
          inr (plant, (sane_take A sane c fits.0.formed).orderly.counted d there (plant ∙ sym from.plant))
      new d (inr k) = inl k

known_acted : (W : World) → AllGood W → (M : List Change) → Known W M → (a : Action) → Genuine M a → Known (acted W a).1 (made_by W a ++ M)
known_acted W all M known (makes i r) genuine = at (slice_get W i) refl
  where
    at : (o : Option Book) → slice_get W i ≡ o → Known (acted_on W (makes i r) o).1 (made_on o r ++ M)
    at None e = known
    at (Some A) e = known_made W all M known i A e r (refusal A r) refl
known_acted W all M known (takes i bytes) (change, letter) = at (slice_get W i) refl
  where
    at : (o : Option Book) → slice_get W i ≡ o → Known (acted_on W (takes i bytes) o).1 M
    at None e = known
    at (Some A) e =
        let sane = (all A (nth_in W i A e)).0 in
        known_done W M known i A e _
        (taken_either A bytes (Froms M A)
        (λ c formed same. take_from M A sane (known.has i A e) c formed (change c formed same))
        (λ cs formed same. received_from M cs A sane (known.has i A e) (letter_is_formed cs formed) (letter cs formed same)) tt)
known_acted W all M known (takes_back i n) genuine = at (slice_get W i) refl
  where
    back : (A : Book) → Has M A → (b : Bool) → Froms M A (cond b (Ok ([], taken_back A n)) (Err Needed))
    back A (changes, waiting) true = record { plant = refl; highest = omega arith; has = (λ d k. changes d (kept_within _ A.changes d k), waiting) }
    back A has false = tt

    at : (o : Option Book) → slice_get W i ≡ o → Known (acted_on W (takes_back i n) o).1 M
    at None e = known
    at (Some A) e = known_done W M known i A e _ (back A (known.has i A e) (is_free A n))
known_acted W all M known (passes i j) genuine = at (slice_get W j) refl
  where
    sent_from : (B : Book) → Sane B → Has M B → (o : Option Book) → slice_get W i ≡ o → Froms M B (passed_from o B)
    sent_from B s has None e = tt
    sent_from B s has (Some A) e =
        let sound = book_sound A (all A (nth_in W i A e)).0 in
        received_from M _ B s has (letter_formed A.changes sound _) (λ c k. (known.has i A e).0 c (((sent_sends _ A.changes sound).exactly c).0 k).0)

    at : (o : Option Book) → slice_get W j ≡ o → Known (acted_on W (passes i j) o).1 M
    at None e = known
    at (Some B) e = known_done W M known j B e _ (sent_from B (all B (nth_in W j B e)).0 (known.has j B e) (slice_get W i) refl)

known_played : (W : World) → AllGood W → (M : List Change) → Known W M → (actions : List Action) → Honest W M actions → (N : List Change) × Known (played W actions) N
known_played W all M known [] honest = (M, known)
known_played W all M known (a ∷ actions) (genuine, honest) =
    known_played (acted W a).1 (acted_good W all a) (made_by W a ++ M) (known_acted W all M known a genuine) actions honest

begun_empty : (plants : List ℕ) (i : ℕ) (B : Book) → BookAt (begun plants) i B → (p : ℕ) × (slice_get plants i ≡ Some p) × (empty p ≡ B)
begun_empty [] i B e = absurd (none_is_not_some B e)
begun_empty (p ∷ plants) zero B e = (p, refl, same_some (empty p) B e)
begun_empty (p ∷ plants) (suc i) B e = begun_empty plants i B e

different_apart : (ns : List ℕ) → Different ns → (i j n : ℕ) → slice_get ns i ≡ Some n → slice_get ns j ≡ Some n → i ≡ j
different_apart [] d i j n e f = absurd (none_is_not_some n e)
different_apart (m ∷ ns) d zero zero n e f = refl
different_apart (m ∷ ns) d zero (suc j) n e f = absurd (d.0 (rw (same_some m n e) (nth_in ns j n f)))
different_apart (m ∷ ns) d (suc i) zero n e f = absurd (d.0 (rw (same_some m n f) (nth_in ns i n e)))
different_apart (m ∷ ns) d (suc i) (suc j) n e f = ap suc (different_apart ns d.1 i j n e f)

known_begun : (plants : List ℕ) → Different plants → Known (begun plants) []
known_begun plants different = record {
  one = λ c d k. absurd k;
  has = λ i B e. let (p, _, same) = begun_empty plants i B e in subst (Has []) same (λ d k. k, λ d k. k);
  counted = λ i B e c k. absurd k;
  apart = λ i j A B a b same.
      let (p, at_i, is_p) = begun_empty plants i A a in
      let (q, at_j, is_q) = begun_empty plants j B b in
      let e : p ≡ q = ap (λ X. X.plant) is_p ∙ same ∙ ap (λ X. X.plant) (sym is_q) in
      different_apart plants different i j q (subst (λ x. slice_get plants i ≡ Some x) e at_i) at_j;
}

held_in : (N : List Change) (B : Book) → Has N B → Within (held B) N
held_in N B (changes, waiting) c i = elim (in_either B.changes B.waiting c i) [ inl j ↦ changes c j | inr j ↦ waiting c j ]

pub nothing_forged : NothingForged
nothing_forged plants low different actions honest A B i j c d k l =
    let (N, known) = known_played (begun plants) (begun_good plants low) [] (known_begun plants different) actions honest in
    let (x, at_x) = in_nth (played (begun plants) actions) A i in
    let (y, at_y) = in_nth (played (begun plants) actions) B j in
    known.one c d (held_in N A (known.has x A at_x) c k) (held_in N B (known.has y B at_y) d l)
