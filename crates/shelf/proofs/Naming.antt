-- The adds of a change looked at one by one: each may name the start, the end, lines of those before it, and lines from the needs.
-- Assumes nothing.
use Rattle.std.proofs.Common.{◌≡◌, ℕ, zero, suc, ◌+◌, ◌<◌, Bool, ◌&&◌, List, [], ◌∷◌, map, reverse, length, get_or, take, drop, sym, refl, ap, ◌∙◌, ap₂, arith}
use Rattle.std.proofs.Math.Bool.{and_assoc}
use Rattle.std.proofs.lemmas.List.{at_drop_more, at_drop_all, take_more, reverse-append}
use Rattle.std.specs.List.{list_all, enumerate_from}
use Rattle.change.specs.Model.{Add}
use Rattle.order.specs.Order.{Put, puts_from}
use Rattle.verdict.specs.Verdict.{is_named, all_named}
use Rattle.shelf.specs.Relating.{are_named}
use Rattle.shelf.proofs.Places.{place_by_place}

-- what stands past the end
pub nowhere : Put
nowhere = record { line = 0; after = 0; before = 0 }

-- the two lines of an add, whatever shows it, and in its put
module _ {X : Type 0} (shows : X → Add) where
  pub put_has_the_lines : (p : Put) (x : X) (n : ℕ) (xs : List X) (i : ℕ) → i < length xs →
      ((get_or (puts_from n (map shows xs)) i p).after ≡ (shows (get_or xs i x)).after) × ((get_or (puts_from n (map shows xs)) i p).before ≡ (shows (get_or xs i x)).before)
  put_has_the_lines p x n [] i less = absurd (omega arith)
  put_has_the_lines p x n (y ∷ xs) zero less = (refl, refl)
  put_has_the_lines p x n (y ∷ xs) (suc i) less = put_has_the_lines p x (suc n) xs i (omega arith)

  pub length_puts : (n : ℕ) (xs : List X) → length (puts_from n (map shows xs)) ≡ length xs
  length_puts n [] = refl
  length_puts n (x ∷ xs) = ap suc (length_puts (suc n) xs)

-- a test of each add and its place, which says of each whether its put may name both of its lines
module _ (from : ℕ → Bool) {X : Type 0} (shows : X → Add) (d : X) (n : ℕ) (xs : List X) (test : ℕ × X → Bool) where
  abbrev here : List Put
  here = puts_from n (map shows xs)

  -- the puts from a place on are named, with those before it
  named_from : ℕ → Bool
  named_from i = all_named from (reverse (take i here)) (drop i here)

  abbrev NamedAt : Type 0
  NamedAt = (i : ℕ) → i < length xs → are_named from (reverse (take i here)) (get_or here i nowhere).after (get_or here i nowhere).before ≡ test (i, get_or xs i d)

  at_place : NamedAt → (i : ℕ) → i < length xs → named_from i ≡ test (i, get_or xs i d) && named_from (i + 1)
  unfolding named_from
  at_place named i less =
      let p = get_or here i nowhere in
      let before = reverse (take i here) in
      let within : i < length here = omega (arith, length_puts shows n xs) in
      at_drop_more (all_named from before) here i nowhere within
      ∙ sym (and_assoc (is_named from before p.after) (is_named from before p.before) _)
      ∙ ap₂ (λ b qs. b && all_named from qs (drop (i + 1) here)) (named i less) (sym (ap reverse (take_more here i nowhere within) ∙ reverse-append (take i here) (p ∷ [])))

  pub named_by_places : NamedAt → list_all test (enumerate_from 0 xs) ≡ all_named from [] here
  unfolding named_from
  named_by_places named =
      sym (place_by_place test named_from d xs (at_place named) (at_drop_all (all_named from (reverse (take (length xs) here))) here (length xs) (omega (arith, length_puts shows n xs))))
