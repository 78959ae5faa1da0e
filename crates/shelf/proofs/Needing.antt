-- Whether a change is needed, asked of the changes one by one.
-- Assumes nothing.
use Rattle.std.proofs.Common.{◌≡◌, ℕ, suc, ◌+◌, Bool, true, not, ◌&&◌, eqb, List, [], ◌∷◌, reverse, length, Some, Decides, sym, refl, ap, ◌∙◌, subst, ap₂, arith}
use Rattle.std.specs.List.{slice_get, IsAnyAnswer, ContainsAt, list_all, range_with_len}
use Rattle.std.proofs.lemmas.List.Elements.{contains_decides}
use Rattle.std.proofs.lemmas.List.{get_or_default}
use Rattle.std.proofs.lemmas.Bool.{not-true}
use Rattle.std.proofs.lemmas.Bool.Decides.{Decides-like, same_from_decides, not_from_Decides, Decides-eqb}
use Rattle.change.specs.Membership.{In}
use Rattle.change.specs.Model.{Change}
use Rattle.order.specs.Theorems.{NoneNeeds}
use Rattle.order.proofs.Deciding.{decides_itself, decides_every}
use Rattle.order.proofs.Members.{in_get_or, in_at}
use Rattle.verdict.specs.FromNeeds.{is_among}
use Rattle.verdict.proofs.FromNeeds.{decides_among}
use Rattle.shelf.specs.TakingBack.{needs_some, needs_at, none_needs}
use Rattle.shelf.proofs.Reversed.{in_reverse, reverse_in}

-- what `contains` answers of the needs of a change
pub contains_tells : (needs slice : List ℕ) (n : ℕ) (r : Bool) → slice ≡ needs → IsAnyAnswer (λ m t. eqb m n ≡ t) slice r → Decides r (In n needs)
contains_tells needs slice n r same cases = subst (λ ns. Decides r (In n ns)) same (Decides-like r to from (contains_decides eqb Decides-eqb slice n r cases))
  where
    to : ContainsAt slice n → In n slice
    to (k, less, at) = subst (λ m. In m slice) (at 0) (in_get_or slice k 0 less)

    from : In n slice → ContainsAt slice n
    from i = let (k, less, e) = in_at 0 n slice i in (k, less, λ d. get_or_default slice k d 0 less ∙ e)

pub every_reverse : {X : Type 0} (test : X → Bool) (xs : List X) → list_all test xs ≡ list_all test (reverse xs)
every_reverse {X} test xs = same_from_decides _ _ (each xs) (Decides-like _ (λ all x i. all x (reverse_in xs x i)) (λ all x i. all x (in_reverse xs x i)) (each (reverse xs)))
  where
    each : (ys : List X) → Decides (list_all test ys) ((x : X) → In x ys → test x ≡ true)
    each = decides_every test (λ x. test x ≡ true) (λ x. decides_itself (test x))

-- a test of what stands at each place is one of each element
every_by_place : {X : Type 0} (at : ℕ → Bool) (test : X → Bool) (n : ℕ) (xs : List X) → ((i : ℕ) (x : X) → slice_get xs i ≡ Some x → at (n + i) ≡ test x) → list_all at (range_with_len n (length xs)) ≡ list_all test xs
every_by_place at test n [] each = refl
every_by_place at test n (x ∷ xs) each =
    let first : n + 0 ≡ n = omega arith in
    ap₂ ◌&&◌ (ap at (sym first) ∙ each 0 x refl)
    (every_by_place at test (n + 1) xs (λ i y e. let here : n + suc i ≡ n + 1 + i = omega arith in ap at (sym here) ∙ each (suc i) y e))

pub none_needs_by_place : (cs : List Change) (n : ℕ) → list_all (λ place. not (needs_at cs n place)) (range_with_len 0 (length cs)) ≡ none_needs (reverse cs) n
none_needs_by_place cs n =
    every_by_place (λ place. not (needs_at cs n place)) (λ d. not (is_among n d.needs)) 0 cs (λ i d e. let here : 0 + i ≡ i = omega arith in ap (λ k. not (needs_at cs n k)) here ∙ ap (λ o. not (needs_some n o)) e)
    ∙ every_reverse (λ d. not (is_among n d.needs)) cs

pub none_needs_lem : (L : List Change) (n : ℕ) → none_needs L n ≡ true → NoneNeeds n L
none_needs_lem L n none d i need =
    not_from_Decides _ (decides_among n d.needs) (not-true _ ((decides_every (λ d. not (is_among n d.needs)) (λ d. not (is_among n d.needs) ≡ true) (λ d. decides_itself _) L).0 none d i)) need
