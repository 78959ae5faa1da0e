-- What a change that is made needs, and what its kills are.
-- Assumes nothing.
use Rattle.std.proofs.Common.{◌≡◌, ℕ, ◌<◌, ◌≤◌, List, [], ◌∷◌, map, Decides, sym, refl, ap, subst, inl, inr, arith}
use Rattle.std.proofs.lemmas.Bool.Decides.{Decides-ltb, Decides-eqb, Decides-or, Decides-not, Decides-like}
use Rattle.change.specs.Membership.{In, SameMembers}
use Rattle.change.specs.Model.{Change, bringer}
use Rattle.order.proofs.Members.{kept_from, kept_has}
use Rattle.history.specs.Book.{Book, next_name}
use Rattle.making.specs.Request.{named_lines}
use Rattle.making.specs.Making.{is_foreign, foreign_lines, change_for}
use Rattle.making.specs.Theorems.{NeedsExactly, MadeAsAsked}
use Rattle.making.proofs.Lowest.{made_none_holds}
use Rattle.making.proofs.Sorted.{sorted_members}

decides_foreign : (B : Book) (u : ℕ) → Decides (is_foreign B u) ((2 ≤ u) × (bringer u ≡ next_name B → ⊥))
decides_foreign B u =
    Decides-like _ (λ none. (omega (arith, λ (h : u < 2). none (inl h)), λ e. none (inr e))) (λ (high, other) h. elim h [ inl low ↦ omega arith | inr e ↦ other e ])
    (Decides-not _ (Decides-or _ _ (Decides-ltb u 2) (Decides-eqb (bringer u) (next_name B))))

in_mapped : {X Y : Type 0} (f : X → Y) (y : Y) (xs : List X) → In y (map f xs) → (x : X) × In x xs × (f x ≡ y)
in_mapped f y [] i = absurd i
in_mapped f y (x ∷ xs) (inl e) = (x, inl refl, sym e)
in_mapped f y (x ∷ xs) (inr i) = let (z, j, e) = in_mapped f y xs i in (z, inr j, e)

mapped_in : {X Y : Type 0} (f : X → Y) (x : X) (xs : List X) → In x xs → In (f x) (map f xs)
mapped_in f x [] i = absurd i
mapped_in f x (y ∷ xs) (inl e) = inl (ap f e)
mapped_in f x (y ∷ xs) (inr i) = inr (mapped_in f x xs i)

pub needs_exactly : NeedsExactly
needs_exactly B r n = (to, from)
  where
    to : In n (change_for B r).needs → (u : ℕ) × In u (named_lines r) × (2 ≤ u) × (bringer u ≡ next_name B → ⊥) × (bringer u ≡ n)
    to i =
        let (u, j, e) = in_mapped bringer n (foreign_lines B r) ((sorted_members (map bringer (foreign_lines B r))).0 n i) in
        let (named, test) = kept_from (is_foreign B) (named_lines r) u j in
        let (high, other) = (decides_foreign B u).0 test in
        (u, named, high, other, e)

    from : (u : ℕ) × In u (named_lines r) × (2 ≤ u) × (bringer u ≡ next_name B → ⊥) × (bringer u ≡ n) → In n (change_for B r).needs
    from (u, named, high, other, e) =
        (sorted_members (map bringer (foreign_lines B r))).1 n
        (subst (λ m. In m (map bringer (foreign_lines B r))) e (mapped_in bringer u (foreign_lines B r) (kept_has (is_foreign B) (named_lines r) u named ((decides_foreign B u).1 (high, other)))))

pub made_as_asked : MadeAsAsked
made_as_asked B r c p = subst Asked (made_none_holds B r (change_for B r) c p).1 (refl, refl, refl, sorted_members r.kills)
  where
    Asked : Change → Type 0
    Asked d = (d.name ≡ next_name B) × (d.sheet ≡ r.sheet) × (d.adds ≡ r.adds) × SameMembers d.kills r.kills
