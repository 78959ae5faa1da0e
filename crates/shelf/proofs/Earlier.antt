-- The lines of the first adds of a change are those that follow its first line.
-- Assumes nothing.
use Rattle.std.proofs.Common.{◌≡◌, ℕ, zero, suc, ◌-◌, ◌<◌, ◌≤◌, Bool, true, false, ◌||◌, eqb, ltb, ◌⊎◌, List, [], ◌∷◌, length, take, Decides, sym, refl, ap, ◌∙◌, subst, ap₂, inl, inr, arith}
use Rattle.std.proofs.lemmas.List.{length-take-le}
use Rattle.std.proofs.lemmas.Bool.{or_left, or_right, lt-ltb, le-ltb}
use Rattle.std.proofs.lemmas.Bool.Decides.{Decides-eqb, Decides-like, same_from_decides}
use Rattle.change.specs.Membership.{In}
use Rattle.change.specs.Model.{Add, Change, line_of}
use Rattle.order.specs.Order.{Put, puts_from}
use Rattle.std.specs.List.{list_any}
use Rattle.order.proofs.Deciding.{decides_some}
use Rattle.order.proofs.Numbers.{puts_range}
use Rattle.lines.specs.Puts.{Given}
use Rattle.verdict.specs.Verdict.{is_named}
use Rattle.verdict.proofs.FromNeeds.{put_at}
use Rattle.shelf.specs.Relating.{earlier}
use Rattle.shelf.proofs.Reversed.{in_reverse, reverse_in}

pub take_puts : (n : ℕ) (adds : List Add) (i : ℕ) → take i (puts_from n adds) ≡ puts_from n (take i adds)
take_puts n adds zero = refl
take_puts n [] (suc i) = refl
take_puts n (a ∷ adds) (suc i) = ap (λ ps. record { line = n; after = a.after; before = a.before } ∷ ps) (take_puts (suc n) adds i)

pub decides_earlier : (c : Change) (place u : ℕ) → place ≤ length c.adds → Decides (list_any (λ p. eqb p.line u) (earlier c place)) (Given (line_of c.name 0) place u)
decides_earlier c place u within = Decides-like _ to from (decides_some (λ p. eqb p.line u) (λ p. p.line ≡ u) (λ p. Decides-eqb p.line u) (earlier c place))
  where
    first : ℕ
    first = line_of c.name 0

    taken : length (take place c.adds) ≡ place
    taken = length-take-le place c.adds within

    to : (p : Put) × In p (earlier c place) × (p.line ≡ u) → Given first place u
    to (p, i, e) =
        let own = subst (In p) (take_puts first c.adds place) (in_reverse _ p i) in
        omega (arith, puts_range first (take place c.adds) p own, taken)

    from : Given first place u → (p : Put) × In p (earlier c place) × (p.line ≡ u)
    from (low, high) =
        let (p, i, e) = put_at first (take place c.adds) (u - first) (omega (arith, taken)) in
        (p, reverse_in _ p (subst (In p) (sym (take_puts first c.adds place)) i), omega arith)

-- the three ways for a line to be named
module _ (c : Change) (from : ℕ → Bool) (place u : ℕ) (within : place ≤ length c.adds) (own : Bool) (tells_own : Decides own (Given (line_of c.name 0) place u)) where
  own_is_earlier : own ≡ list_any (λ p. eqb p.line u) (earlier c place)
  own_is_earlier = same_from_decides _ _ tells_own (decides_earlier c place u within)

  pub start_end_or_own_is_named : (u < 2) ⊎ (own ≡ true) → true ≡ is_named from (earlier c place) u
  start_end_or_own_is_named (inl low) = sym (or_left _ _ (lt-ltb u 2 low))
  start_end_or_own_is_named (inr e) = sym (or_right (ltb u 2) _ (or_left _ _ (sym own_is_earlier ∙ e)))

  pub else_from_needs : 2 ≤ u → own ≡ false → from u ≡ is_named from (earlier c place) u
  else_from_needs high e = ap₂ (λ x y. x || (y || from u)) (sym (le-ltb u 2 high)) (sym e ∙ own_is_earlier)
