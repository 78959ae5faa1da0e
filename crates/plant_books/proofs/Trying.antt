-- That trying the next change gives the book of the theory: the shelf's answer is what the theory admits, the place that is cleared is that of the name, and the book stays orderly.
-- Assumes nothing.
use Rattle.std.proofs.Common.{◌≡◌, ℕ, zero, suc, ◌+◌, ◌<◌, Bool, false, cond, not, ◌&&◌, ltb, leb, List, [], ◌∷◌, length, Some, sym, refl, ap, ◌∙◌, subst, inl, inr, arith}
use Rattle.std.specs.List.{slice_get, remove}
use Rattle.std.proofs.lemmas.List.Sums.{sum_by-cons}
use Rattle.std.proofs.lemmas.Bool.{eq-eqb, ne_eqb, lt-ltb, not-true}
use Rattle.std.proofs.lemmas.Bool.Decides.{Decides-not}
use Rattle.change.specs.declared.refusal.Refusal.TheVariants.{Unrelated, Unordered, Full}
use Rattle.change.specs.Membership.{In}
use Rattle.change.specs.Model.{Change}
use Rattle.order.specs.Names.{HasName}
use Rattle.order.specs.Theorems.{without}
use Rattle.order.proofs.OneName.{has_name_lem}
use Rattle.verdict.specs.Verdict.{is_known, is_related, is_ordered}
use Rattle.history.specs.declared.Outcome.{Outcome}
use Rattle.history.specs.declared.Outcome.TheVariants.{Taken, Waits, Refused}
use Rattle.history.specs.Book.{Book, lines_of, line_limit, change_limit, has_room, waits_no_more}
use Rattle.history.specs.Sane.{Distinct, Orderly}
use Rattle.history.specs.Taking.{provided, admitted, after, tried, try_then, settled, lowest_ready}
use Rattle.history.proofs.Lowest.{next_waits}
use Rattle.history.proofs.Outcomes.{admitted_not_waits}
use Rattle.history.proofs.Settling.{settled_story}
use Rattle.shelf.specs.Admitting.{room_for, admission, changes_after}
use Rattle.plant_books.specs.Next.{PlaceOf}
use Rattle.plant_books.specs.Trying.{highest_after}

module _ (B : Book) (c : Change) where
  room_is : room_for B.changes c ≡ has_room B c
  room_is = ap (λ n. ltb (length B.changes) change_limit && leb n line_limit) lines
    where
      lines : lines_of (c ∷ B.changes) ≡ lines_of B.changes + length c.adds
      lines = omega (arith, sum_by-cons (λ d. length d.adds) c B.changes)

  pub admission_is : admission B.changes c ≡ admitted B c
  admission_is = ap (λ b. provided (is_related B.changes c) Unrelated (provided (is_ordered B.changes c) Unordered (provided b Full Taken))) room_is

-- the parts of a book in which a change came in or was turned away
pub parts_are_after : (B : Book) (c : Change) (o : Outcome) → (o ≡ Waits → ⊥) → (h : ℕ) → h ≡ highest_after o B.plant c B.highest → (L : List Change) → L ≡ changes_after o B.changes c →
    record { plant = B.plant; highest = h; changes = L; waiting = B.waiting } ≡ after o B c
parts_are_after B c Taken other h high L came = λ i. record { plant = B.plant; highest = high i; changes = came i; waiting = B.waiting }
parts_are_after B c Waits other h high L came = absurd (other refl)
parts_are_after B c (Refused r) other h high L came = λ i. record { plant = B.plant; highest = high i; changes = came i; waiting = B.waiting }

none_of_the_name : (n : ℕ) (S : List Change) → (HasName S n → ⊥) → without n S ≡ S
none_of_the_name n [] none = refl
none_of_the_name n (x ∷ S) none =
    ap (λ b. cond (not b) (x ∷ without n S) (without n S)) (ne_eqb x.name n (λ e. none (x, inl refl, e)))
    ∙ ap (λ M. x ∷ M) (none_of_the_name n S (λ (d, i, e). none (d, inr i, e)))

nth_in : {X : Type 0} (xs : List X) (i : ℕ) (x : X) → slice_get xs i ≡ Some x → In x xs
nth_in [] i x e = absurd (let z : ◌≡◌ {A = ℕ} 0 1 = cc in omega arith)
nth_in (y ∷ xs) zero x e = inl (cc)
nth_in (y ∷ xs) (suc i) x e = inr (nth_in xs i x e)

nth_inside : {X : Type 0} (xs : List X) (i : ℕ) (x : X) → slice_get xs i ≡ Some x → i < length xs
nth_inside [] i x e = absurd (let z : ◌≡◌ {A = ℕ} 0 1 = cc in omega arith)
nth_inside (y ∷ xs) zero x e = omega arith
nth_inside (y ∷ xs) (suc i) x e = omega (arith, nth_inside xs i x e)

-- of changes of distinct names, the one at a place goes, or the one of its name
removed_is_without : (S : List Change) → Distinct S → (i : ℕ) (c : Change) → slice_get S i ≡ Some c → remove S i ≡ without c.name S
removed_is_without [] distinct i c e = absurd (let z : ◌≡◌ {A = ℕ} 0 1 = cc in omega arith)
removed_is_without (x ∷ S) (new, distinct) zero c e =
    let same : x.name ≡ c.name = cc in
    sym (ap (λ b. cond (not b) (x ∷ without c.name S) (without c.name S)) (eq-eqb x.name c.name same)
    ∙ none_of_the_name c.name S (subst (λ n. HasName S n → ⊥) same new))
removed_is_without (x ∷ S) (new, distinct) (suc i) c e =
    ap (λ M. x ∷ M) (removed_is_without S distinct i c e)
    ∙ sym (ap (λ b. cond (not b) (x ∷ without c.name S) (without c.name S)) (ne_eqb x.name c.name (λ same. new (c, nth_in S i c e, sym same))))

module _ (B : Book) (o : Orderly B) (c : Change) (next : lowest_ready B ≡ Some c) where
  pub next_is_new : is_known B.changes c ≡ false
  next_is_new = not-true _ ((Decides-not _ (has_name_lem B.changes c.name)).1 (o.outside c (next_waits B c next).0))

  pub tried_orderly : Orderly (tried B c)
  tried_orderly = subst (λ x. Orderly (try_then (settled 0) B x).1) next (settled_story 1 B o).orderly

  -- the parts of a book in which the change was tried make up the book of the theory
  pub parts_are_tried : (o : Outcome) → o ≡ admitted B c → (h : ℕ) → h ≡ highest_after o B.plant c B.highest →
      (L : List Change) → L ≡ changes_after o B.changes c → (W : List Change) → W ≡ without c.name B.waiting →
      record { plant = B.plant; highest = h; changes = L; waiting = W } ≡ tried B c
  parts_are_tried o outcome h high L came W gone =
      ap (λ M. record { plant = B.plant; highest = h; changes = L; waiting = M }) gone
      ∙ parts_are_after (waits_no_more B c.name) c o (λ e. admitted_not_waits B c (sym outcome ∙ e)) h high L came
      ∙ ap (λ x. after x (waits_no_more B c.name) c) outcome

pub the_next : (B : Book) (p : ℕ) (c : Change) → PlaceOf B.waiting (Some p) (lowest_ready B) → Some c ≡ slice_get B.waiting p → lowest_ready B ≡ Some c
the_next B p c (x, next, there) here = next ∙ sym there ∙ sym here

module _ (W : List Change) (p : ℕ) (c : Change) (here : Some c ≡ slice_get W p) where
  pub waits_without_it : Distinct W → (r : Bool) → r ≡ ltb p (length W) → (V : List Change) → V ≡ cond r (remove W p) W → V ≡ without c.name W
  waits_without_it distinct r answer V rest =
      rest ∙ ap (λ b. cond b (remove W p) W) (answer ∙ lt-ltb p (length W) (nth_inside W p c (sym here))) ∙ removed_is_without W distinct p c (sym here)
