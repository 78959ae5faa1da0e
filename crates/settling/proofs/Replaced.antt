-- Blocks among which one is replaced by lines in order: they are shown as before above it, then these lines, each a block of its own, then as before below it.
-- Chained R us: each of us stands before those that follow it.
-- Assumes nothing.
use Rattle.std.proofs.Common.{ℕ, ◌⊎◌, List, [], ◌∷◌, ◌++◌, sym, refl, subst, inl, inr}
use Rattle.change.specs.Membership.{In}
use Rattle.order.proofs.Members.{in_left, in_right, in_either}
use Rattle.blocks.specs.Relation.{Loose, Tied, same, by, Walk, InSome, InOrder, Shows}
use Rattle.blocks.specs.Strict.{Strict}
use Rattle.blocks.proofs.Reading.{in_some}
use Rattle.settling.specs.Settled.{singles}
use Rattle.settling.proofs.Cuts.{in_some_left, in_some_right, in_some_either, in_singles, singles_in, order_front, order_back, order_across, order_joined}

abbrev pub Chained : (ℕ → ℕ → Type 0) → List ℕ → Type 0
Chained R [] = Unit {0}
Chained R (u ∷ us) = ((v : ℕ) → In v us → R u v) × Chained R us

singles_ordered : (R : ℕ → ℕ → Type 0) (us : List ℕ) → Chained R us → InOrder R (singles us)
singles_ordered R [] c = tt
singles_ordered R (u ∷ us) (first, c) = (
  (u, inl refl),
  λ x y i j. elim i [ inl e ↦ subst (λ z. R z y) (sym e) (first y (in_singles y us j)) | inr none ↦ absurd none ],
  singles_ordered R us c,
)

-- what holds of a block of one line holds of each of the singles
singles_each : (P : List ℕ → Type 0) (us : List ℕ) → ((u : ℕ) → P (u ∷ [])) → (b : List ℕ) → In b (singles us) → P b
singles_each P [] one b i = absurd i
singles_each P (u ∷ us) one b (inl e) = subst P (sym e) (one u)
singles_each P (u ∷ us) one b (inr i) = singles_each P us one b i

module _ (A A' : ℕ → Type 0) (R R' : ℕ → ℕ → Type 0) (strict : Strict R') (front back : List (List ℕ)) (block news : List ℕ) (shows : Shows A R (front ++ block ∷ back)) where
  -- a line of another block
  abbrev Other : ℕ → Type 0
  Other u = InSome u front ⊎ InSome u back

  module _ (stand : (u v : ℕ) → Other u → Other v → (R u v → R' u v) × (R' u v → R u v)) (others_live : (u : ℕ) → Other u → A' u) where
    walk_kept : (ls : List ℕ) → ((u : ℕ) → In u ls → Other u) → Walk R ls → Walk R' ls
    walk_kept [] other w = tt
    walk_kept (u ∷ ls) other (once, free, low, w) = (
      once,
      λ v i r. free v i ((stand v u (other v i) (other u (inl refl))).1 r),
      λ v i f. low v i (λ x j r. f x j ((stand x v (other x j) (other v (inr i))).0 r)),
      walk_kept ls (λ v i. other v (inr i)) w,
    )

    loose_kept : (u v : ℕ) → Other u → Other v → Loose A R u v → Loose A' R' u v
    loose_kept u v i j l = record {
      lives = others_live u i;
      other_lives = others_live v j;
      differ = l.differ;
      not_before = λ r. l.not_before ((stand u v i j).1 r);
      not_behind = λ r. l.not_behind ((stand v u j i).1 r);
    }

    -- a tie that stays among lines of which P holds
    tied_kept : (P : ℕ → Type 0) → ((u : ℕ) → P u → Other u) → ((u v : ℕ) → Loose A R u v → P u → P v) → {u w : ℕ} → Tied A R u w → P u → Tied A' R' u w
    tied_kept P other stays same p = same
    tied_kept P other stays (by {u = u} v l t) p = let q = stays u v l p in by v (loose_kept u v (other u p) (other v q) l) (tied_kept P other stays t q)

    loose_in_front : (u v : ℕ) → Loose A R u v → InSome u front → InSome v front
    loose_in_front u v l i = elim (in_some_either v front (block ∷ back) (shows.all v l.other_lives)) [
      | inl j ↦ j
      | inr j ↦ absurd (l.not_before (order_across R front (block ∷ back) shows.ordered u v i j))
    ]

    loose_in_back : (u v : ℕ) → Loose A R u v → InSome u back → InSome v back
    loose_in_back u v l i = elim (in_some_either v front (block ∷ back) (shows.all v l.other_lives)) [
      | inl j ↦ absurd (l.not_behind (order_across R front (block ∷ back) shows.ordered v u j (inr i)))
      | inr (inl j) ↦ absurd (l.not_behind ((order_back R front (block ∷ back) shows.ordered).1 v u j i))
      | inr (inr j) ↦ j
    ]

    order_kept : (bs : List (List ℕ)) → ((u : ℕ) → InSome u bs → Other u) → InOrder R bs → InOrder R' bs
    order_kept [] other o = tt
    order_kept (b ∷ bs) other (filled, above, o) =
        (filled, λ u v i j. (stand u v (other u (inl i)) (other v (inr j))).0 (above u v i j), order_kept bs (λ u i. other u (inr i)) o)

    module _ (news_live : (u : ℕ) → In u news → A' u) (none_else : (u : ℕ) → A' u → Other u ⊎ In u news)
        (chain : Chained R' news) (behind_front : (u v : ℕ) → InSome u front → In v news → R' u v) (before_back : (u v : ℕ) → In u news → InSome v back → R' u v) where
      abbrev after : List (List ℕ)
      after = front ++ (singles news ++ back)

      places : (u : ℕ) → InSome u after → Other u ⊎ In u news
      places u i = elim (in_some_either u front (singles news ++ back) i) [
        | inl j ↦ inl (inl j)
        | inr j ↦ elim (in_some_either u (singles news) back j) [ inl k ↦ inr (in_singles u news k) | inr k ↦ inl (inr k) ]
      ]

      placed : (u : ℕ) → Other u ⊎ In u news → InSome u after
      placed u (inl (inl i)) = in_some_left u front (singles news ++ back) i
      placed u (inl (inr i)) = in_some_right u front (singles news ++ back) (in_some_right u (singles news) back i)
      placed u (inr i) = in_some_right u front (singles news ++ back) (in_some_left u (singles news) back (singles_in u news i))

      -- what holds of the blocks above and below, and of each single line, holds of all
      each_block : (P : List ℕ → Type 0) → ((b : List ℕ) → In b front → P b) → ((b : List ℕ) → In b back → P b) → ((u : ℕ) → P (u ∷ [])) → (b : List ℕ) → In b after → P b
      each_block P above below one b i = elim (in_either front (singles news ++ back) b i) [
        | inl j ↦ above b j
        | inr j ↦ elim (in_either (singles news) back b j) [ inl k ↦ singles_each P news one b k | inr k ↦ below b k ]
      ]

      in_front : (b : List ℕ) → In b front → In b (front ++ block ∷ back)
      in_front b i = in_left front (block ∷ back) b i

      in_back : (b : List ℕ) → In b back → In b (front ++ block ∷ back)
      in_back b i = in_right front (block ∷ back) b (inr i)

      one_walk : (u : ℕ) → Walk R' (u ∷ [])
      one_walk u = (λ none. none, λ v i r. elim i [ inl e ↦ strict.never u (subst (λ x. R' x u) e r) | inr none ↦ none ], λ v none f. absurd none, tt)

      abbrev Ties : List ℕ → Type 0
      Ties b = (u v : ℕ) → In u b → In v b → Tied A' R' u v

      one_tied : (x : ℕ) → Ties (x ∷ [])
      one_tied x u v (inl e) (inl f) = subst (λ y. Tied A' R' u y) (sym f) (subst (λ y. Tied A' R' y x) (sym e) same)
      one_tied x u v (inl e) (inr none) = absurd none
      one_tied x u v (inr none) j = absurd none

      pub shows_replaced : Shows A' R' after
      shows_replaced = record {
        all = λ u a. placed u (none_else u a);
        only = λ u i. elim (places u i) [ inl o ↦ others_live u o | inr j ↦ news_live u j ];
        walked = each_block (Walk R')
            (λ b i. walk_kept b (λ u j. inl (in_some front b u i j)) (shows.walked b (in_front b i)))
            (λ b i. walk_kept b (λ u j. inr (in_some back b u i j)) (shows.walked b (in_back b i)))
            one_walk;
        blockwise = each_block Ties
            (λ b i u v j k. tied_kept (λ x. InSome x front) (λ x. inl) loose_in_front (shows.blockwise b (in_front b i) u v j k) (in_some front b u i j))
            (λ b i u v j k. tied_kept (λ x. InSome x back) (λ x. inr) loose_in_back (shows.blockwise b (in_back b i) u v j k) (in_some back b u i j))
            one_tied;
        ordered =
            order_joined R' front (singles news ++ back) (order_kept front (λ u. inl) (order_front R front (block ∷ back) shows.ordered))
            (order_joined R' (singles news) back (singles_ordered R' news chain) (order_kept back (λ u. inr) (order_back R front (block ∷ back) shows.ordered).2)
            (λ u v i j. before_back u v (in_singles u news i) j))
            (λ u v i j. elim (in_some_either v (singles news) back j) [
              | inl k ↦ behind_front u v i (in_singles v news k)
              | inr k ↦ (stand u v (inl i) (inr k)).0 (order_across R front (block ∷ back) shows.ordered u v i (inr k))
            ]);
      }
