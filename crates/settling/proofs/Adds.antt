-- The chained adds of a piece: which lines they name, that they are written, and that they fit.
-- Assumes nothing.
use Rattle.std.proofs.Common.{◌≡◌, ℕ, suc, ◌+◌, ◌*◌, ◌≤◌, true, ◌⊎◌, List, [], ◌∷◌, length, refl, ap, inl, inr, arith}
use Rattle.std.proofs.lemmas.Bool.{and_parts, and_from, le-leb}
use Rattle.std.specs.List.{list_all}
use Rattle.change.specs.Membership.{In}
use Rattle.change.specs.Model.{Change, bringer}
use Rattle.change.specs.WellFormed.{is_add, is_text, highest_line}
use Rattle.order.specs.Order.{Put, puts_from, Precedes, ahead}
use Rattle.order.specs.Fits.{FromNeeds, Named, With, PutsFit}
use Rattle.making.specs.Request.{add_lines}
use Rattle.settling.specs.Requests.{chained}

pub length_chained : (m a n : ℕ) (texts : List (List ℕ)) → length (chained m a n texts) ≡ length texts
length_chained m a n [] = refl
length_chained m a n (t ∷ texts) = ap suc (length_chained m n (suc n) texts)

module _ (m : ℕ) where
  -- besides a and m, only lines of the change itself
  pub chained_names :
      (name a n : ℕ) (texts : List (List ℕ)) → name * 64 ≤ n → n + length texts ≤ name * 64 + 64 →
      (u : ℕ) → In u (add_lines (chained m a n texts)) → (u ≡ a) ⊎ ((u ≡ m) ⊎ (bringer u ≡ name))
  chained_names name a n [] low high u i = absurd i
  chained_names name a n (t ∷ texts) low high u (inl e) = inl e
  chained_names name a n (t ∷ texts) low high u (inr (inl e)) = inr (inl e)
  chained_names name a n (t ∷ texts) low high u (inr (inr i)) = elim (chained_names name n (suc n) texts (omega arith) (omega arith) u i) [
    | inl e ↦ inr (inr (omega arith))
    | inr h ↦ inr h
  ]

  pub chained_written :
      (a n : ℕ) (texts : List (List ℕ)) → a ≤ highest_line → m ≤ highest_line → n + length texts ≤ highest_line + 1 → list_all is_text texts ≡ true →
      list_all is_add (chained m a n texts) ≡ true
  chained_written a n [] la lm ln ok = refl
  chained_written a n (t ∷ texts) la lm ln ok =
      let (one, rest) = and_parts (is_text t) _ ok in
      and_from _ _ (and_from _ _ (le-leb a highest_line la) (and_from _ _ (le-leb m highest_line lm) one))
      (chained_written n (suc n) texts (omega arith) lm (omega arith) rest)

  -- each goes between two lines that it may name, and that stand in this order
  pub chained_fit :
      (S : List Change) (c : Change) (earlier : List Put) (a n : ℕ) (texts : List (List ℕ)) →
      (In a (add_lines (chained m a n texts)) → Named S c earlier a) → (In m (add_lines (chained m a n texts)) → FromNeeds S c m) → Precedes (With S earlier) a m →
      PutsFit S c earlier (puts_from n (chained m a n texts))
  chained_fit S c earlier a n [] named from order = tt
  chained_fit S c earlier a n (t ∷ texts) named from order =
      let p : Put = record { line = n; after = a; before = m } in (
        named (inl refl),
        inr (inr (from (inr (inl refl)))),
        order,
        chained_fit S c (p ∷ earlier) n (suc n) texts (λ _. inr (inl (p, inl refl, refl))) (λ i. from (inr (inr i))) (ahead p (inr (inl refl))),
      )
