-- Lists of blocks cut in two: what is in them, and what stands before what.
-- Assumes nothing.
use Rattle.std.proofs.Common.{ℕ, ◌⊎◌, List, [], ◌∷◌, ◌++◌, inl, inr}
use Rattle.change.specs.Membership.{In}
use Rattle.blocks.specs.Relation.{InSome, InOrder}
use Rattle.settling.specs.Settled.{singles}

module _ (u : ℕ) where
  pub in_some_left : (bs cs : List (List ℕ)) → InSome u bs → InSome u (bs ++ cs)
  in_some_left [] cs i = absurd i
  in_some_left (b ∷ bs) cs (inl i) = inl i
  in_some_left (b ∷ bs) cs (inr i) = inr (in_some_left bs cs i)

  pub in_some_right : (bs cs : List (List ℕ)) → InSome u cs → InSome u (bs ++ cs)
  in_some_right [] cs i = i
  in_some_right (b ∷ bs) cs i = inr (in_some_right bs cs i)

  pub in_some_either : (bs cs : List (List ℕ)) → InSome u (bs ++ cs) → InSome u bs ⊎ InSome u cs
  in_some_either [] cs i = inr i
  in_some_either (b ∷ bs) cs (inl i) = inl (inl i)
  in_some_either (b ∷ bs) cs (inr i) = elim (in_some_either bs cs i) [ inl j ↦ inl (inr j) | inr j ↦ inr j ]

  pub in_singles : (us : List ℕ) → InSome u (singles us) → In u us
  in_singles [] i = i
  in_singles (v ∷ us) (inl (inl e)) = inl e
  in_singles (v ∷ us) (inl (inr none)) = absurd none
  in_singles (v ∷ us) (inr i) = inr (in_singles us i)

  pub singles_in : (us : List ℕ) → In u us → InSome u (singles us)
  singles_in [] i = i
  singles_in (v ∷ us) (inl e) = inl (inl e)
  singles_in (v ∷ us) (inr i) = inr (singles_in us i)

module _ (R : ℕ → ℕ → Type 0) where
  pub order_front : (bs cs : List (List ℕ)) → InOrder R (bs ++ cs) → InOrder R bs
  order_front [] cs o = tt
  order_front (b ∷ bs) cs (filled, above, o) = (filled, λ u v i j. above u v i (in_some_left v bs cs j), order_front bs cs o)

  pub order_back : (bs cs : List (List ℕ)) → InOrder R (bs ++ cs) → InOrder R cs
  order_back [] cs o = o
  order_back (b ∷ bs) cs (filled, above, o) = order_back bs cs o

  pub order_across : (bs cs : List (List ℕ)) → InOrder R (bs ++ cs) → (u v : ℕ) → InSome u bs → InSome v cs → R u v
  order_across [] cs o u v i j = absurd i
  order_across (b ∷ bs) cs (filled, above, o) u v (inl i) j = above u v i (in_some_right v bs cs j)
  order_across (b ∷ bs) cs (filled, above, o) u v (inr i) j = order_across bs cs o u v i j

  pub order_joined : (bs cs : List (List ℕ)) → InOrder R bs → InOrder R cs → ((u v : ℕ) → InSome u bs → InSome v cs → R u v) → InOrder R (bs ++ cs)
  order_joined [] cs o p across = p
  order_joined (b ∷ bs) cs (filled, above, o) p across = (
    filled,
    λ u v i j. elim (in_some_either v bs cs j) [ inl k ↦ above u v i k | inr k ↦ across u v (inl i) k ],
    order_joined bs cs o p (λ u v i j. across u v (inr i) j),
  )
