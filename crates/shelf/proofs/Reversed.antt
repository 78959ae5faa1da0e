-- A list turned round has the same members.
-- Assumes nothing.
use Rattle.std.proofs.Common.{◌⊎◌, List, [], ◌∷◌, reverse, inl, inr}
use mathlib.Core.List.{reverse_aux}
use Rattle.change.specs.Membership.{In, Within}

module _ {X : Type 0} where
  reversed_from : (xs behind : List X) (x : X) → In x (reverse_aux xs behind) → In x xs ⊎ In x behind
  reversed_from [] behind x i = inr i
  reversed_from (y ∷ xs) behind x i = elim (reversed_from xs (y ∷ behind) x i) [ inl j ↦ inl (inr j) | inr (inl e) ↦ inl (inl e) | inr (inr j) ↦ inr j ]

  reversed_has : (xs behind : List X) (x : X) → In x xs ⊎ In x behind → In x (reverse_aux xs behind)
  reversed_has [] behind x (inl i) = absurd i
  reversed_has [] behind x (inr i) = i
  reversed_has (y ∷ xs) behind x (inl (inl e)) = reversed_has xs (y ∷ behind) x (inr (inl e))
  reversed_has (y ∷ xs) behind x (inl (inr i)) = reversed_has xs (y ∷ behind) x (inl i)
  reversed_has (y ∷ xs) behind x (inr i) = reversed_has xs (y ∷ behind) x (inr (inr i))

  pub in_reverse : (xs : List X) → Within (reverse xs) xs
  in_reverse xs x i = elim (reversed_from xs [] x i) [ inl j ↦ j | inr j ↦ absurd j ]

  pub reverse_in : (xs : List X) → Within xs (reverse xs)
  reverse_in xs x i = reversed_has xs [] x (inl i)
