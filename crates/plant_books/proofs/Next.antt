-- Finding the change that is tried next, from the last that waits to the first.
-- lowest_from ready W i: the lowest of those of W that are ready, from the place i on.
-- Assumes nothing.
use Rattle.std.proofs.Common.{◌≡◌, ℕ, zero, suc, ◌<◌, Bool, true, false, cond, ltb, List, [], ◌∷◌, length, drop, IfSome, Some, None, filter, Option, sym, refl, ap, ◌∙◌, subst, arith}
use Rattle.std.specs.List.{slice_get}
use Rattle.change.specs.Model.{Change}
use Rattle.history.specs.Taking.{lower, lowest}
use Rattle.plant_books.specs.declared.reads.Mark.{Mark}
use Rattle.plant_books.specs.Next.{Marks, lower_mark}

module _ (W : List Change) (place : ℕ) (d : Change) (here : Some d ≡ slice_get W place) where
  pub at_place : (P : Change → Type 0) → P d → IfSome (slice_get W place) P
  at_place P p = subst (λ x. IfSome x P) here p

  pub lower_marks : (one : Mark) → one.place ≡ place → one.name.0 ≡ d.name → (behind : Option Mark) (o : Option Change) → Marks W behind o → Marks W (Some (lower_mark one behind)) (lower d o)
  lower_marks one at name None o e = (d, ap (lower d) e, ap (slice_get W) at ∙ sym here, name)
  lower_marks one at name (Some m) o (x, e, there, same) = go (ltb m.name.0 one.name.0) refl
    where
      told : ltb x.name d.name ≡ ltb m.name.0 one.name.0
      told i = ltb (sym same i) (sym name i)

      go : (b : Bool) → ltb m.name.0 one.name.0 ≡ b → Marks W (Some (cond b m one)) (lower d o)
      go true t = (x, ap (lower d) e ∙ ap (λ b. cond b (Some x) (Some d)) (told ∙ t), there, same)
      go false t = (d, ap (lower d) e ∙ ap (λ b. cond b (Some x) (Some d)) (told ∙ t), ap (slice_get W) at ∙ sym here, name)

abbrev pub lowest_from : (Change → Bool) → List Change → ℕ → Option Change
lowest_from ready W i = lowest (filter ready (drop i W))

module _ (ready : Change → Bool) where
  pub none_from_end : (W : List Change) → lowest_from ready W (length W) ≡ None
  none_from_end [] = refl
  none_from_end (c ∷ W) = none_from_end W

  one_more : (c : Change) (b : Bool) (S : List Change) → cond b (lower c (lowest S)) (lowest S) ≡ lowest (cond b (c ∷ S) S)
  one_more c true S = refl
  one_more c false S = refl

  -- what is told of the change at a place gives the lowest from there on
  pub from_place : (P : Option Change → Type 0) (W : List Change) (i : ℕ) → i < length W →
      IfSome (slice_get W i) (λ c. P (cond (ready c) (lower c (lowest_from ready W (suc i))) (lowest_from ready W (suc i)))) → P (lowest_from ready W i)
  from_place P [] i less told = absurd (omega arith)
  from_place P (c ∷ W) zero less told = subst P (one_more c (ready c) (filter ready W)) told
  from_place P (c ∷ W) (suc i) less told = from_place P W i (omega arith) told
