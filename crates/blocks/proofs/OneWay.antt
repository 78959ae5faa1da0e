-- There is one way to show lines: the first blocks have the same lines, so the walk makes them equal, and so on with what is left.
-- Part A R blocks: what a back part of the blocks of a sheet keeps of being shown.
-- Assumes nothing.
use Rattle.std.proofs.Common.{◌≡◌, ℕ, ◌≤◌, List, [], ◌∷◌, sym, refl, ◌∙◌, subst, inl, inr, arith}
use Rattle.change.specs.Membership.{In, Within, SameMembers}
use Rattle.blocks.specs.Relation.{Loose, Tied, Free, Walk, InSome, InOrder, Shows}
use Rattle.blocks.specs.Strict.{Strict}
use Rattle.blocks.proofs.Ties.{along}

first_lowest : (R : ℕ → ℕ → Type 0) (u v : ℕ) (ls : List ℕ) → Walk R (u ∷ ls) → In v (u ∷ ls) → Free R (u ∷ ls) v → u ≤ v
first_lowest R u v ls w (inl e) f = omega arith
first_lowest R u v ls w (inr i) f = w.2 v i f

rest_within : (u v : ℕ) (ls ks : List ℕ) → u ≡ v → (In u ls → ⊥) → Within (u ∷ ls) (v ∷ ks) → Within ls ks
rest_within u v ls ks e once w x i = go (w x (inr i))
  where
    go : In x (v ∷ ks) → In x ks
    go (inl q) = absurd (once (subst (λ y. In y ls) (q ∙ sym e) i))
    go (inr j) = j

-- a walk is known by its members
walk_by_members : (R : ℕ → ℕ → Type 0) (ls ks : List ℕ) → Walk R ls → Walk R ks → SameMembers ls ks → ls ≡ ks
walk_by_members R [] [] w x m = refl
walk_by_members R [] (k ∷ ks) w x m = absurd (m.1 k (inl refl))
walk_by_members R (l ∷ ls) [] w x m = absurd (m.0 l (inl refl))
walk_by_members R (l ∷ ls) (k ∷ ks) w x m =
    let low : k ≤ l = first_lowest R k l ks x (m.0 l (inl refl)) (λ v i. w.1 v (m.1 v i)) in
    let high : l ≤ k = first_lowest R l k ls w (m.1 k (inl refl)) (λ v i. x.1 v (m.0 v i)) in
    let e : l ≡ k = omega arith in
    let t = walk_by_members R ls ks w.3 x.3 (rest_within l k ls ks e w.0 m.0, rest_within k l ks ls (sym e) x.0 m.1) in
    cc

record Part (A : ℕ → Type 0) (R : ℕ → ℕ → Type 0) (blocks : List (List ℕ)) : Type 0 where
  walked : (b : List ℕ) → In b blocks → Walk R b
  blockwise : (b : List ℕ) → In b blocks → (u v : ℕ) → In u b → In v b → Tied A R u v
  ordered : InOrder R blocks
  closed : (u v : ℕ) → Loose A R u v → InSome u blocks → InSome v blocks

AllIn : List (List ℕ) → List (List ℕ) → Type 0
AllIn bs cs = (u : ℕ) → InSome u bs → InSome u cs

module _ (A : ℕ → Type 0) (R : ℕ → ℕ → Type 0) (strict : Strict R) where
  part_of_shown : (bs : List (List ℕ)) → Shows A R bs → Part A R bs
  part_of_shown bs s = record { walked = s.walked; blockwise = s.blockwise; ordered = s.ordered; closed = λ u v l i. s.all v l.other_lives }

  back_part : (b : List ℕ) (bs : List (List ℕ)) → Part A R (b ∷ bs) → Part A R bs
  back_part b bs p =
      record { walked = λ c i. p.walked c (inr i); blockwise = λ c i. p.blockwise c (inr i); ordered = p.ordered.2; closed = λ u v l i. go u v l i (p.closed u v l (inr i)) }
    where
      go : (u v : ℕ) → Loose A R u v → InSome u bs → InSome v (b ∷ bs) → InSome v bs
      go u v l i (inl j) = absurd (l.not_behind (p.ordered.1 v u j i))
      go u v l i (inr j) = j

  firsts_within : (b c : List ℕ) (bs cs : List (List ℕ)) → Part A R (b ∷ bs) → Part A R (c ∷ cs) → AllIn (b ∷ bs) (c ∷ cs) → AllIn (c ∷ cs) (b ∷ bs) → Within b c
  unfolding AllIn
  firsts_within b c bs cs p q to from u i = go (to u (inl i))
    where
      first : (y : ℕ) × In y c
      first = q.ordered.0

      meet : InSome u cs → InSome first.0 (b ∷ bs) → ⊥
      meet j (inl k) =
          let t = p.blockwise b (inl refl) u first.0 i k in
          strict.never first.0 (q.ordered.1 first.0 first.0 first.1 (along (λ x. InSome x cs) (back_part c cs q).closed t j))
      meet j (inr k) = strict.never u (strict.onward first.0 (p.ordered.1 u first.0 i k) (q.ordered.1 first.0 u first.1 j))

      go : InSome u (c ∷ cs) → In u c
      go (inl j) = j
      go (inr j) = absurd (meet j (from first.0 (inl first.1)))

  rest_all_in : (b c : List ℕ) (bs cs : List (List ℕ)) → Part A R (b ∷ bs) → Within c b → AllIn (b ∷ bs) (c ∷ cs) → AllIn bs cs
  unfolding AllIn
  rest_all_in b c bs cs p w to u i = go (to u (inr i))
    where
      go : InSome u (c ∷ cs) → InSome u cs
      go (inl j) = absurd (strict.never u (p.ordered.1 u u (w u j) i))
      go (inr j) = j

  parts_equal : (bs cs : List (List ℕ)) → Part A R bs → Part A R cs → AllIn bs cs → AllIn cs bs → bs ≡ cs
  unfolding AllIn
  parts_equal [] [] p q to from = refl
  parts_equal [] (c ∷ cs) p q to from = let (y, i) = q.ordered.0 in absurd (from y (inl i))
  parts_equal (b ∷ bs) [] p q to from = let (y, i) = p.ordered.0 in absurd (to y (inl i))
  parts_equal (b ∷ bs) (c ∷ cs) p q to from =
      let bc = firsts_within b c bs cs p q to from in
      let cb = firsts_within c b cs bs q p from to in
      let e = walk_by_members R b c (p.walked b (inl refl)) (q.walked c (inl refl)) (bc, cb) in
      let t = parts_equal bs cs (back_part b bs p) (back_part c cs q) (rest_all_in b c bs cs p cb to) (rest_all_in c b cs bs q bc from) in
      cc

  pub one_way : (bs cs : List (List ℕ)) → Shows A R bs → Shows A R cs → bs ≡ cs
  unfolding AllIn
  one_way bs cs s t = parts_equal bs cs (part_of_shown bs s) (part_of_shown cs t) (λ u i. t.all u (s.only u i)) (λ u i. s.all u (t.only u i))
