-- The cuts make blocks: what is cut off stands before the rest, and what is not cut off is tied. With the walk, the blocks that the function finds show the lines.
-- Cuts A R ws blocks: the blocks are the walk ws, cut.
-- Assumes nothing.
use Rattle.std.proofs.Common.{◌≡◌, ℕ, Bool, true, false, ◌⊎◌, List, [], ◌∷◌, ◌++◌, length, sym, refl, subst, inl, inr, ⊎_elim, append_assoc, le_refl}
use Rattle.std.proofs.lemmas.Bool.{cond_both, both_ways, and_cases}
use Rattle.std.proofs.lemmas.Bool.Decides.{not_from_Decides}
use Rattle.std.specs.List.{list_all}
use Rattle.change.specs.Membership.{In}
use Rattle.order.proofs.Members.{in_left, in_right, in_either}
use Rattle.order.proofs.Deciding.{decides_itself, decides_every}
use Rattle.blocks.specs.Relation.{Tied, Walk, InSome, InOrder}
use Rattle.blocks.specs.Function.{walk, wholly, cut, cut_all}
use Rattle.blocks.specs.Strict.{Says, Strict}
use Rattle.blocks.specs.Theorems.{Found}
use Rattle.blocks.proofs.Ties.{Told, decidable, tied_on, tied_back, tied_equal, tied_or_ordered}
use Rattle.blocks.proofs.Parts.{walk_back, walk_forward, walk_front}
use Rattle.blocks.proofs.Walks.{walk_walked}

not_every : {X : Type 0} (test : X → Bool) (xs : List X) → list_all test xs ≡ false → (x : X) × In x xs × (test x ≡ false)
not_every test [] h = absurd (both_ways true h refl)
not_every {X} test (y ∷ xs) h = go (and_cases (test y) (list_all test xs) h) (not_every test xs)
  where
    go : (test y ≡ false) ⊎ (list_all test xs ≡ false) → (list_all test xs ≡ false → (x : X) × In x xs × (test x ≡ false)) → (x : X) × In x (y ∷ xs) × (test x ≡ false)
    go (inl f) rest = (y, inl refl, f)
    go (inr f) rest = let (x, i, t) = rest f in (x, inr i, t)

record Cuts (A : ℕ → Type 0) (R : ℕ → ℕ → Type 0) (ws : List ℕ) (blocks : List (List ℕ)) : Type 0 where
  all : (u : ℕ) → In u ws → InSome u blocks
  only : (u : ℕ) → InSome u blocks → In u ws
  walked : (b : List ℕ) → In b blocks → Walk R b
  blockwise : (b : List ℕ) → In b blocks → (u v : ℕ) → In u b → In v b → Tied A R u v
  ordered : InOrder R blocks

module _ (A : ℕ → Type 0) (R : ℕ → ℕ → Type 0) where
  abbrev AllTied : List ℕ → Type 0
  AllTied b = (u v : ℕ) → In u b → In v b → Tied A R u v

  no_cuts : Cuts A R [] []
  no_cuts = record { all = λ u i. i; only = λ u i. i; walked = λ b i. absurd i; blockwise = λ b i. absurd i; ordered = tt }

  first_cut : (b s : List ℕ) (bs : List (List ℕ)) → ((u : ℕ) × In u b) → Walk R b → AllTied b → ((u v : ℕ) → In u b → In v s → R u v) → Cuts A R s bs → Cuts A R (b ++ s) (b ∷ bs)
  first_cut b s bs filled w tied above cuts =
      record {
        all = λ u i. ⊎_elim inl (λ j. inr (cuts.all u j)) (in_either b s u i);
        only = λ u. ⊎_elim (in_left b s u) (λ j. in_right b s u (cuts.only u j));
        walked = λ c. ⊎_elim (λ e. subst (Walk R) (sym e) w) (cuts.walked c);
        blockwise = λ c. ⊎_elim (λ e. subst AllTied (sym e) tied) (cuts.blockwise c);
        ordered = (filled, λ u v i j. above u v i (cuts.only v j), cuts.ordered);
      }

  tied_through : (x : ℕ) (b : List ℕ) → ((y : ℕ) → In y b → Tied A R y x) → AllTied b
  tied_through x b to u v i j = tied_on (to u i) (tied_back (to v j))

  tied_alone : (x : ℕ) → AllTied (x ∷ [])
  tied_alone x = tied_through x (x ∷ []) (λ y. ⊎_elim tied_equal absurd)

  all_tied_more : (b : List ℕ) (x u : ℕ) → AllTied b → In u b → Tied A R u x → AllTied (b ++ x ∷ [])
  all_tied_more b x u tied i t =
      tied_through x (b ++ x ∷ []) (λ y j. ⊎_elim (λ k. tied_on (tied y u k i) t) (⊎_elim tied_equal absurd) (in_either b (x ∷ []) y j))

  module _ (before : ℕ → ℕ → Bool) (told : Told R before) (strict : Strict R) where
    -- where the block can't be cut off yet, since u of it does not stand before v to come, the next line x is tied to u
    next_tied : (b xs : List ℕ) (x u v : ℕ) → Walk R (b ++ x ∷ xs) → ((y : ℕ) → In y (b ++ x ∷ xs) → A y) → In u b → In v (x ∷ xs) → (R u v → ⊥) → Tied A R u x
    next_tied b xs x u v w alive i j n = to_x (order x v ax av)
      where
        au : A u
        au = alive u (in_left b (x ∷ xs) u i)

        av : A v
        av = alive v (in_right b (x ∷ xs) v j)

        ax : A x
        ax = alive x (in_right b (x ∷ xs) x (inl refl))

        order : (y z : ℕ) → A y → A z → Tied A R y z ⊎ (R y z ⊎ R z y)
        order = tied_or_ordered (decidable told)

        to_v : Tied A R u v ⊎ (R u v ⊎ R v u) → Tied A R u v
        to_v (inl t) = t
        to_v (inr (inl r)) = absurd (n r)
        to_v (inr (inr r)) = absurd (walk_forward R b (x ∷ xs) w u v i j r)

        straight : R x v → Tied A R u x ⊎ (R u x ⊎ R x u) → Tied A R u x
        straight r (inl t) = t
        straight r (inr (inl q)) = absurd (n (strict.onward x q r))
        straight r (inr (inr q)) = absurd (walk_forward R b (x ∷ xs) w u x i (inl refl) q)

        to_x : Tied A R x v ⊎ (R x v ⊎ R v x) → Tied A R u x
        to_x (inl t) = tied_on (to_v (order u v au av)) (tied_back t)
        to_x (inr (inl r)) = straight r (order u x au ax)
        to_x (inr (inr r)) = absurd ((walk_back R b (x ∷ xs) w).1 v j r)

    wholly_above : (b s : List ℕ) → wholly before b s ≡ true → (u v : ℕ) → In u b → In v s → R u v
    wholly_above b s t u v i = (decides_every (λ x. list_all (before x) s) (λ x. (y : ℕ) → In y s → R x y) (λ x. decides_every (before x) (R x) (told x) s) b).0 t u i v

    all_tied_next : (b xs : List ℕ) (x : ℕ) → Walk R (b ++ x ∷ xs) → ((u : ℕ) → In u (b ++ x ∷ xs) → A u) → AllTied b → wholly before b (x ∷ xs) ≡ false → AllTied (b ++ x ∷ [])
    all_tied_next b xs x w alive tied f =
        let (u, i, g) = not_every (λ y. list_all (before y) (x ∷ xs)) b f in
        let (v, j, n) = not_every (before u) (x ∷ xs) g in
        all_tied_more b x u tied i (next_tied b xs x u v w alive i j (not_from_Decides (before u v) (told u v) n))

    cut_cuts : (b xs : List ℕ) → ((u : ℕ) × In u b) → AllTied b → Walk R (b ++ xs) → ((u : ℕ) → In u (b ++ xs) → A u) → Cuts A R (b ++ xs) (cut before b xs)
    cut_cuts b [] filled tied w alive = first_cut b [] [] filled (walk_front R strict b [] (λ u v i. absurd) w) tied (λ u v i. absurd) no_cuts
    cut_cuts b (x ∷ xs) filled tied w alive =
        let rest = cut_cuts (x ∷ []) xs (x, inl refl) (tied_alone x) (walk_back R b (x ∷ xs) w) (λ u i. alive u (in_right b (x ∷ xs) u i)) in
        let e = append_assoc b (x ∷ []) xs in
        let more = cut_cuts (b ++ x ∷ []) xs (x, in_right b (x ∷ []) x (inl refl)) in
        cond_both (wholly before b (x ∷ xs)) (b ∷ cut before (x ∷ []) xs) (cut before (b ++ x ∷ []) xs) (Cuts A R (b ++ x ∷ xs))
        (λ t. let above = wholly_above b (x ∷ xs) t in first_cut b (x ∷ xs) (cut before (x ∷ []) xs) filled (walk_front R strict b (x ∷ xs) above w) tied above rest)
        (λ f. subst (λ ws. Cuts A R ws (cut before (b ++ x ∷ []) xs)) e (more (all_tied_next b xs x w alive tied f) (subst (Walk R) (sym e) w) (λ u i. alive u (subst (In u) e i))))

    all_cuts : (ws : List ℕ) → Walk R ws → ((u : ℕ) → In u ws → A u) → Cuts A R ws (cut_all before ws)
    all_cuts [] w alive = no_cuts
    all_cuts (x ∷ xs) w alive = cut_cuts (x ∷ []) xs (x, inl refl) (tied_alone x) w alive

pub found : Found
found before strict ls =
    let (w, m) = walk_walked before strict (length ls) ls (le_refl (length ls)) in
    let cuts = all_cuts (λ u. In u ls) (Says before) before (λ u v. decides_itself (before u v)) strict (walk before (length ls) ls) w m.0 in
    record { all = λ u i. cuts.all u (m.1 u i); only = λ u i. m.0 u (cuts.only u i); walked = cuts.walked; blockwise = cuts.blockwise; ordered = cuts.ordered }
