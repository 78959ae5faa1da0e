-- What a reader can tell from blocks that are shown: which lines are tied, and which stand before which.
-- Assumes nothing.
use Rattle.std.proofs.Common.{◌≡◌, ℕ, ◌⊎◌, List, [], ◌∷◌, ◌++◌, sym, refl, subst, inl, inr, ⊎_elim}
use Rattle.change.specs.Membership.{In}
use Rattle.order.proofs.Members.{in_left, in_right, in_either}
use Rattle.blocks.specs.Relation.{Loose, Walk, InSome, InOrder, Shows}
use Rattle.blocks.specs.Strict.{Strict}
use Rattle.blocks.specs.Theorems.{OneByOne, Together, TiedTogether, flat, Above, Upper, Middle}
use Rattle.blocks.proofs.Ties.{along}

pub in_flat : (u : ℕ) (bs : List (List ℕ)) → InSome u bs → In u (flat bs)
in_flat u [] i = i
in_flat u (b ∷ bs) i = ⊎_elim (in_left b (flat bs) u) (λ j. in_right b (flat bs) u (in_flat u bs j)) i

pub flat_in : (u : ℕ) (bs : List (List ℕ)) → In u (flat bs) → InSome u bs
flat_in u [] i = i
flat_in u (b ∷ bs) i = ⊎_elim inl (λ j. inr (flat_in u bs j)) (in_either b (flat bs) u i)

block_of : (blocks : List (List ℕ)) (u : ℕ) → InSome u blocks → (b : List ℕ) × In b blocks × In u b
block_of [] u i = absurd i
block_of (b ∷ blocks) u (inl i) = (b, inl refl, i)
block_of (b ∷ blocks) u (inr i) = let (c, j, k) = block_of blocks u i in (c, inr j, k)

pub in_some : (blocks : List (List ℕ)) (b : List ℕ) (u : ℕ) → In b blocks → In u b → InSome u blocks
in_some [] b u i j = absurd i
in_some (c ∷ blocks) b u (inl e) j = inl (subst (In u) e j)
in_some (c ∷ blocks) b u (inr i) j = inr (in_some blocks b u i j)

pub above_in : (ls : List ℕ) (u v : ℕ) → Above ls u v → In u ls × In v ls
above_in [] u v h = absurd h
above_in (x ∷ ls) u v (inl (e, i)) = (inl e, inr i)
above_in (x ∷ ls) u v (inr h) = let (i, j) = above_in ls u v h in (inr i, inr j)

above_either : (ls ks : List ℕ) (u v : ℕ) → Above (ls ++ ks) u v → Above ls u v ⊎ ((In u ls × In v ks) ⊎ Above ks u v)
above_either [] ks u v h = inr (inr h)
above_either (x ∷ ls) ks u v (inl (e, i)) = ⊎_elim (λ j. inl (inl (e, j))) (λ j. inr (inl (inl e, j))) (in_either ls ks v i)
above_either (x ∷ ls) ks u v (inr h) = go (above_either ls ks u v h)
  where
    go : Above ls u v ⊎ ((In u ls × In v ks) ⊎ Above ks u v) → Above (x ∷ ls) u v ⊎ ((In u (x ∷ ls) × In v ks) ⊎ Above ks u v)
    go (inl a) = inl (inr a)
    go (inr (inl (i, j))) = inr (inl (inr i, j))
    go (inr (inr a)) = inr (inr a)

-- of two members one is above the other
above_some : (ls : List ℕ) (u v : ℕ) → In u ls → In v ls → (u ≡ v) ⊎ (Above ls u v ⊎ Above ls v u)
above_some [] u v i j = absurd i
above_some (x ∷ ls) u v (inl d) (inl e) = inl (subst (λ y. u ≡ y) (sym e) d)
above_some (x ∷ ls) u v (inl d) (inr j) = inr (inl (inl (d, j)))
above_some (x ∷ ls) u v (inr i) (inl e) = inr (inr (inl (e, i)))
above_some (x ∷ ls) u v (inr i) (inr j) = go (above_some ls u v i j)
  where
    go : (u ≡ v) ⊎ (Above ls u v ⊎ Above ls v u) → (u ≡ v) ⊎ (Above (x ∷ ls) u v ⊎ Above (x ∷ ls) v u)
    go (inl e) = inl e
    go (inr (inl a)) = inr (inl (inr a))
    go (inr (inr a)) = inr (inr (inr a))

module _ (R : ℕ → ℕ → Type 0) where
  some_member : (blocks : List (List ℕ)) (b : List ℕ) → InOrder R blocks → In b blocks → (u : ℕ) × In u b
  some_member [] b o i = absurd i
  some_member (c ∷ blocks) b o (inl e) = subst (λ x. (u : ℕ) × In u x) (sym e) o.0
  some_member (c ∷ blocks) b o (inr i) = some_member blocks b o.2 i

  walk_above : (b : List ℕ) (u v : ℕ) → Walk R b → Above b u v → R v u → ⊥
  walk_above [] u v w h r = absurd h
  walk_above (x ∷ b) u v w (inl (e, i)) r = w.1 v (inr i) (subst (R v) e r)
  walk_above (x ∷ b) u v w (inr h) r = walk_above b u v w.3 h r

  upper_part : Strict R → (bs : List (List ℕ)) → InOrder R bs → ((b : List ℕ) → In b bs → Walk R b) → Upper R bs
  upper_part strict [] o w u v h = absurd h
  upper_part strict (b ∷ bs) o w u v h = go (above_either b (flat bs) u v h) (upper_part strict bs o.2 (λ c i. w c (inr i)) u v)
    where
      go :
          Above b u v ⊎ ((In u b × In v (flat bs)) ⊎ Above (flat bs) u v) →
          (Above (flat bs) u v → (R v u → ⊥) × (Together bs u v ⊎ R u v)) → (R v u → ⊥) × (Together (b ∷ bs) u v ⊎ R u v)
      go (inl a) rest = let (i, j) = above_in b u v a in (walk_above b u v (w b (inl refl)) a, inl (b, inl refl, i, j))
      go (inr (inl (i, j))) rest = let r = o.1 u v i (flat_in v bs j) in (λ q. strict.never u (strict.onward v r q), inr r)
      go (inr (inr a)) rest = ((rest a).0, ⊎_elim (λ (c, i, j, k). inl (c, inr i, j, k)) inr (rest a).1)

  module _ (A : ℕ → Type 0) where
    -- what is loose with a line of a block is in the block too
    loose_stays : (blocks : List (List ℕ)) (b : List ℕ) (u v : ℕ) → InOrder R blocks → Loose A R u v → In b blocks → InSome v blocks → In u b → In v b
    loose_stays [] b u v o l i j k = absurd i
    loose_stays (c ∷ blocks) b u v o l (inl e) (inl j) k = subst (In v) (sym e) j
    loose_stays (c ∷ blocks) b u v o l (inl e) (inr j) k = absurd (l.not_before (o.1 u v (subst (In u) e k) j))
    loose_stays (c ∷ blocks) b u v o l (inr i) (inl j) k = absurd (l.not_behind (o.1 v u j (in_some blocks b u i k)))
    loose_stays (c ∷ blocks) b u v o l (inr i) (inr j) k = loose_stays blocks b u v o.2 l i j k

    module _ (blocks : List (List ℕ)) (shows : Shows A R blocks) where
      pub one_by_one : OneByOne A R blocks
      one_by_one tight [] i = absurd (some_member blocks [] shows.ordered i).1
      one_by_one tight (u ∷ []) i = (u, refl)
      one_by_one tight (u ∷ v ∷ b) i =
          let e = along (λ x. u ≡ x) (λ x y l. absurd (tight x y l)) (shows.blockwise (u ∷ v ∷ b) i u v (inl refl) (inr (inl refl))) refl in
          absurd ((shows.walked (u ∷ v ∷ b) i).0 (inl e))

      pub tied_together : TiedTogether A R blocks
      tied_together u v a = (
        λ (b, i, j, k). shows.blockwise b i u v j k,
        λ t. let (b, i, j) = block_of blocks u (shows.all u a) in (b, i, j, along (λ x. In x b) (λ x y l. loose_stays blocks b x y shows.ordered l i (shows.all y l.other_lives)) t j),
      )

      module _ (strict : Strict R) where
        pub upper : Upper R blocks
        upper = upper_part strict blocks shows.ordered shows.walked

        pub shown_above : (u v : ℕ) → A u → A v → R u v → Above (flat blocks) u v
        shown_above u v a b r = go (above_some (flat blocks) u v (in_flat u blocks (shows.all u a)) (in_flat v blocks (shows.all v b)))
          where
            go : (u ≡ v) ⊎ (Above (flat blocks) u v ⊎ Above (flat blocks) v u) → Above (flat blocks) u v
            go (inl e) = absurd (strict.never v (subst (λ x. R x v) e r))
            go (inr (inl h)) = h
            go (inr (inr h)) = absurd ((upper v u h).0 r)

        pub middle : Middle A R blocks
        middle a x b la lx lb r s = (shown_above a x la lx r, shown_above x b lx lb s)
