-- Runs of an iterator to its end, and what it is known to give.
-- Assumes nothing.
use Rattle.std.proofs.Common.{◌≡◌, ℕ, true, List, Option, length, refl, sym, ap, ◌∙◌, subst}
use Rattle.std.specs.Iterator.{Drains, DrainsIf}
use Rattle.std.specs.Iterator.Runs.{Trigger, YieldsRun, Run, WholeRun}
use Rattle.std.specs.List.{slice_get}
use Rattle.std.specs.Option.{option_map}
use Rattle.std.proofs.lemmas.Iterator.{YieldsList, items_from_drains}
use Rattle.std.proofs.lemmas.List.{map-id}
use Rattle.std.proofs.lemmas.Option.{slice_get-get_or}

seen : (n : ℕ) → Trigger n
unfolding Trigger
seen n = tt

module _ {S A : Type 0} (steps : S → Option A → S → Type 0) (s : S) where
  gave : (xs : List A) → Drains steps s xs → YieldsRun steps s xs true (slice_get xs)
  unfolding YieldsRun
  gave xs (u, (t, came, end)) = ((t, came, λ _. (u, end)), λ k. refl)

  -- the items that came are those of a run
  pub run_to_end : (xs : List A) → Drains steps s xs → (P : List A → Type 0) → P xs → WholeRun steps s (λ p. P p.items)
  run_to_end xs drained P holds = (
    record { from = s; items = xs; whole = true; len = length xs; at = slice_get xs; seen = seen (length xs); long = refl; reads = λ k d less. ap (option_map (λ y. y)) (slice_get-get_or xs k d less); gave = gave xs drained },
    refl,
    refl,
    holds,
  )

  came_from : (p : Run steps) → p.from ≡ s → p.whole ≡ true → DrainsIf steps (Unit {0}) s p.items
  unfolding YieldsRun
  came_from p from whole = subst (λ r. DrainsIf steps (Unit {0}) r p.items) from (p.gave.0.0, p.gave.0.1, λ _. p.gave.0.2 whole)

  -- what is said of those of some run is said of all that the iterator gives
  pub said_of_all : (all : List A) → YieldsList steps (λ x. x) s all → (P : List A → Type 0) → WholeRun steps s (λ p. P p.items) → P all
  said_of_all all gives P (p, from, whole, holds) = subst P (sym (map-id p.items) ∙ items_from_drains p.items (came_from p from whole) gives) holds
