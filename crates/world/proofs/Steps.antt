-- What an action does to a book, and so to a world: a book stays sane and of its plant, and either keeps all that it had or gets nothing.
-- Step A B: the book A has become B so. Good B: B is sane, and of a plant that names have room for. AllGood W: each book of W is.
-- Assumes nothing.
use Rattle.std.proofs.Common.{◌≡◌, ℕ, ◌<◌, Bool, true, false, cond, ◌⊎◌, List, [], ◌∷◌, set, Some, None, Ok, Err, Decides, Option, sym, refl, ap, ◌∙◌, subst, inl, inr}
use Rattle.std.specs.List.{slice_get, list_all}
use Rattle.std.proofs.lemmas.Bool.{and_parts, cond-true, cases_eq}
use Rattle.change.specs.declared.refusal.Refusal.{Refusal}
use Rattle.change.specs.declared.refusal.Refusal.TheVariants.{Needed}
use Rattle.change.specs.Membership.{In, Within}
use Rattle.change.specs.Model.{Change}
use Rattle.change.specs.WellFormed.{well_formed}
use Rattle.order.specs.Fits.{Sound}
use Rattle.order.proofs.Deciding.{decides_itself, decides_every}
use Rattle.order.proofs.Fitting.{listed_sound}
use Rattle.history.specs.Book.{Book}
use Rattle.history.specs.Taking.{take, is_free, taken_back}
use Rattle.history.specs.Sane.{Sane}
use Rattle.history.proofs.Names.{kept_within}
use Rattle.history.proofs.Taking.{sane_empty, sane_take, came_in, take_counts}
use Rattle.history.proofs.Back.{sane_take_back}
use Rattle.making.specs.Request.{Request}
use Rattle.making.specs.Making.{change_for, refusal, unless}
use Rattle.making.proofs.Made.{made_fits}
use Rattle.letters.specs.Letter.{is_letter}
use Rattle.sending.specs.Receiving.{received}
use Rattle.sending.proofs.Receiving.{Formed, received_sane, letter_formed}
use Rattle.world.specs.Calls.{Done, take_back_done}
use Rattle.world.specs.World.{World, Action, makes, takes, takes_back, passes, place_of, passed_from, done, concluded, acted_on, acted, played, begun, Arises}
use Rattle.world.specs.Whole.{BookAt}
use Rattle.world.proofs.Places.{same_some, nth_in, in_set, nth_set_same, nth_set_other}
use Rattle.world.proofs.Taken.{taken_either}

pub book_sound : (B : Book) → Sane B → Sound B.changes
book_sound B s = listed_sound B.changes s.orderly.listed

pub record Step (A B : Book) : Type 0 where
  pub sane : Sane B
  pub plant : B.plant ≡ A.plant
  pub either : Within A.changes B.changes ⊎ Within B.changes A.changes

-- what is done is a step, unless it is refused
abbrev pub Steps : Book → Done → Type 0
Steps A (Ok q) = Step A q.1
Steps A (Err e) = Unit {0}

pub take_step : (B : Book) → Sane B → (c : Change) → well_formed c ≡ true → Step B (take B c).1
take_step B s c formed = record { sane = sane_take B s c formed; plant = (take_counts B s c formed).0; either = inl (λ d i. (came_in B s c formed d).1 (inl i)) }

received_plant : (B : Book) → Sane B → (cs : List Change) → Formed cs → (received B cs).1.plant ≡ B.plant
received_plant B s [] formed = refl
received_plant B s (c ∷ cs) formed =
    let well = formed c (inl refl) in
    received_plant (take B c).1 (sane_take B s c well) cs (λ d i. formed d (inr i)) ∙ (take_counts B s c well).0

pub received_step : (B : Book) → Sane B → (cs : List Change) → Formed cs → Step B (received B cs).1
received_step B s cs formed =
    let (sane, stays) = received_sane B s cs formed in
    record { sane = sane; plant = received_plant B s cs formed; either = inl stays }

pub decides_formed : (cs : List Change) → Decides (list_all well_formed cs) (Formed cs)
decides_formed = decides_every well_formed (λ c. well_formed c ≡ true) (λ c. decides_itself (well_formed c))

pub letter_is_formed : (cs : List Change) → is_letter cs ≡ true → Formed cs
letter_is_formed cs h = (decides_formed cs).0 (and_parts _ _ h).1

made_steps : (B : Book) → Sane B → B.plant < 16 → (r : Request) → Steps B (unless (refusal B r) (take B (change_for B r)))
made_steps B s low r = go (refusal B r) refl
  where
    go : (o : Option Refusal) → refusal B r ≡ o → Steps B (unless o (take B (change_for B r)))
    go None e = take_step B s (change_for B r) (made_fits B s low r (change_for B r) (ap (λ x. unless x (change_for B r)) e)).0.formed
    go (Some f) e = tt

taken_back_step : (B : Book) → Sane B → (n : ℕ) → is_free B n ≡ true → Step B (taken_back B n)
taken_back_step B s n free =
    record { sane = subst Sane (cond-true _ (taken_back B n) B free) (sane_take_back B s n); plant = refl; either = inr (kept_within _ B.changes) }

back_steps : (B : Book) → Sane B → (n : ℕ) → Steps B (take_back_done B n)
back_steps B s n = go (is_free B n) refl
  where
    go : (b : Bool) → is_free B n ≡ b → Steps B (cond b (Ok ([], taken_back B n)) (Err Needed))
    go true e = taken_back_step B s n e
    go false e = tt

abbrev pub Good : Book → Type 0
Good B = Sane B × (B.plant < 16)

abbrev pub AllGood : World → Type 0
AllGood W = (B : Book) → In B W → Good B

pub passed_steps : (W : World) → AllGood W → (i : ℕ) (B : Book) → Sane B → Steps B (passed_from (slice_get W i) B)
passed_steps W all i B s = go (slice_get W i) refl
  where
    go : (o : Option Book) → slice_get W i ≡ o → Steps B (passed_from o B)
    go None e = tt
    go (Some A) e = received_step B s _ (letter_formed A.changes (book_sound A (all A (nth_in W i A e)).0) _)

pub done_steps : (W : World) → AllGood W → (a : Action) (B : Book) → Good B → Steps B (done W a B)
done_steps W all (makes i r) B (s, low) = made_steps B s low r
done_steps W all (takes i bytes) B (s, low) =
    taken_either B bytes (Steps B) (λ c formed e. take_step B s c formed) (λ cs formed e. received_step B s cs (letter_is_formed cs formed)) tt
done_steps W all (takes_back i n) B (s, low) = back_steps B s n
done_steps W all (passes i j) B (s, low) = passed_steps W all i B s

pub acted_good : (W : World) → AllGood W → (a : Action) → AllGood (acted W a).1
acted_good W all a = at (slice_get W (place_of a)) refl
  where
    after : (A : Book) → Good A → (d : Done) → Steps A d → AllGood (concluded W (place_of a) d).1
    after A (s, low) (Ok (es, B)) step X i = elim (in_set W (place_of a) B X i) [ inl e ↦ rw e (step.sane, rw step.plant low) | inr j ↦ all X j ]
    after A good (Err e) step X i = all X i

    at : (o : Option Book) → slice_get W (place_of a) ≡ o → AllGood (acted_on W a o).1
    at None e = all
    at (Some A) e = let good = all A (nth_in W (place_of a) A e) in after A good (done W a A) (done_steps W all a A good)

-- the book at a place, before an action and after: it is the same, or a step on
pub acted_step : (W : World) → AllGood W → (a : Action) (i : ℕ) (A B : Book) → BookAt W i A → BookAt (acted W a).1 i B → (A ≡ B) ⊎ Step A B
acted_step W all a i A B here = at (slice_get W (place_of a)) refl
  where
    after : (X : Book) → slice_get W (place_of a) ≡ Some X → (d : Done) → Steps X d → BookAt (concluded W (place_of a) d).1 i B → (A ≡ B) ⊎ Step A B
    after X x (Ok (es, Y)) step there = elim (cases_eq (place_of a) i) [
      | inl e ↦
          let same : X ≡ A = same_some X A (sym x ∙ ap (slice_get W) e ∙ here) in
          let new : Y ≡ B = same_some Y B (sym (nth_set_same W (place_of a) Y X x) ∙ ap (slice_get (set W (place_of a) Y)) e ∙ there) in
          inr (subst (λ Z. Step A Z) new (subst (λ Z. Step Z Y) same step))
      | inr ne ↦ inl (same_some A B (sym here ∙ sym (nth_set_other W (place_of a) i Y ne) ∙ there))
    ]
    after X x (Err e) step there = inl (same_some A B (sym here ∙ there))

    at : (o : Option Book) → slice_get W (place_of a) ≡ o → BookAt (acted_on W a o).1 i B → (A ≡ B) ⊎ Step A B
    at None e there = inl (same_some A B (sym here ∙ there))
    at (Some X) e there = after X e (done W a X) (done_steps W all a X (all X (nth_in W (place_of a) X e))) there

pub played_good : (W : World) → AllGood W → (actions : List Action) → AllGood (played W actions)
played_good W all [] = all
played_good W all (a ∷ actions) = played_good (acted W a).1 (acted_good W all a) actions

pub begun_good : (plants : List ℕ) → ((p : ℕ) → In p plants → p < 16) → AllGood (begun plants)
begun_good [] low B i = absurd i
begun_good (p ∷ plants) low B (inl e) = rw e (sane_empty p, low p (inl refl))
begun_good (p ∷ plants) low B (inr i) = begun_good plants (λ q j. low q (inr j)) B i

pub arises_good : (W : World) → Arises W → AllGood W
arises_good W (plants, low, actions, e) = subst AllGood (sym e) (played_good (begun plants) (begun_good plants low) actions)
