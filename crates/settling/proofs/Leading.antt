-- That some line leads to a block of two lines or more: the least line at or behind all that is above it.
-- LeastBehind L us: a least line at or behind all of us.
-- Assumes nothing.
use Rattle.std.proofs.Common.{◌≡◌, ℕ, ◌≤◌, List, [], ◌∷◌, ◌++◌, length, sym, refl, ◌∙◌, subst, inl, inr, arith}
use Rattle.std.proofs.lemmas.Bool.{cases_eq, cases_lt}
use Rattle.change.specs.Membership.{In}
use Rattle.change.specs.Model.{Change}
use Rattle.order.specs.Order.{whole, through, AtOrBefore, Order, Line, Alive}
use Rattle.order.specs.Fits.{Listed}
use Rattle.order.proofs.Members.{in_right}
use Rattle.order.proofs.Fitting.{listed_sound}
use Rattle.order.proofs.OneSet.{all_inside}
use Rattle.order.proofs.Lattice.{joins}
use Rattle.blocks.specs.Relation.{Loose, Tied, same, by, Walk, InSome, Shows}
use Rattle.blocks.specs.Sheet.{of_sheet}
use Rattle.blocks.specs.Theorems.{flat}
use Rattle.blocks.proofs.Sheets.{sheet_listed}
use Rattle.blocks.proofs.Sets.{set_found}
use Rattle.blocks.proofs.Reading.{in_flat, flat_in}
use Rattle.settling.specs.Theorems.{SomeLineLeads}
use Rattle.settling.proofs.Cuts.{in_some_left, in_some_right, in_some_either, order_across, order_back}

another : (R : ℕ → ℕ → Type 0) (block : List ℕ) → Walk R block → 2 ≤ length block → (m : ℕ) → In m block → (n : ℕ) × In n block × (m ≡ n → ⊥)
another R [] w long m i = absurd i
another R (u ∷ []) w long m i = absurd (omega arith)
another R (u ∷ v ∷ rest) w long m (inl e) = (v, inr (inl refl), λ f. w.0 (inl (sym e ∙ f)))
another R (u ∷ v ∷ rest) w long m (inr i) = (u, inl refl, λ f. w.0 (subst (λ x. In x (v ∷ rest)) f i))

module _ (L : List Change) (h : Listed L) where
  abbrev AtOr : ℕ → ℕ → Type 0
  AtOr = AtOrBefore (Order L)

  abbrev Bounds : List ℕ → ℕ → Type 0
  Bounds us w = (u : ℕ) → In u us → AtOr u w

  at_on : (u v w : ℕ) → AtOr u v → AtOr v w → AtOr u w
  at_on u v w (inl e) q = subst (λ x. AtOr x w) (sym e) q
  at_on u v w (inr p) (inl e) = inr (subst (Order L u) e p)
  at_on u v w (inr p) (inr q) = inr (through v p q)

  start_first : (w : ℕ) → Line L w → AtOr 0 w
  start_first w (inl e) = inl (sym e)
  start_first w (inr (inl e)) = inr (subst (Order L 0) (sym e) whole)
  start_first w (inr (inr p)) = elim (cases_lt w 2) [
    | inl low ↦ elim (cases_eq w 0) [ inl e ↦ inl (sym e) | inr ne ↦ inr (subst (Order L 0) (omega arith) whole) ]
    | inr high ↦ inr (all_inside L (listed_sound L h) w (inr (inr p)) high).0
  ]

  abbrev LeastBehind : List ℕ → Type 0
  LeastBehind us = (j : ℕ) × Line L j × Bounds us j × ((w : ℕ) → Line L w → Bounds us w → AtOr j w)

  least_behind : (us : List ℕ) → ((u : ℕ) → In u us → Line L u) → LeastBehind us
  least_behind [] lines = (0, inl refl, λ u i. absurd i, λ w line b. start_first w line)
  least_behind (u ∷ us) lines =
      let (i, on, bounds, least) = least_behind us (λ v k. lines v (inr k)) in
      let (j, at, p, q, lowest) = joins L (listed_sound L h) u i (lines u (inl refl)) on in (
        j,
        at,
        λ v k. elim k [ inl e ↦ subst (λ x. AtOr x j) (sym e) p | inr l ↦ at_on v i j (bounds v l) q ],
        λ w line b. lowest w line (b u (inl refl)) (least w line (λ v k. b v (inr k))),
      )

  module _ (front : List (List ℕ)) (block : List ℕ) (back : List (List ℕ)) (shows : Shows (Alive L) (Order L) (front ++ block ∷ back)) where
    above_block : (u v : ℕ) → InSome u front → In v block → Order L u v
    above_block u v i j = order_across (Order L) front (block ∷ back) shows.ordered u v i (inl j)

    block_line : (u : ℕ) → In u block → Line L u
    block_line u i = (shows.only u (in_some_right u front (block ∷ back) (inl i))).0

    -- a line of the block that is loose with another isn't at or before all of the block
    loose_in_block : (m v : ℕ) → In m block → Loose (Alive L) (Order L) m v → In v block
    loose_in_block m v i l = elim (in_some_either v front (block ∷ back) (shows.all v l.other_lives)) [
      | inl j ↦ absurd (l.not_behind (above_block v m j i))
      | inr (inl j) ↦ j
      | inr (inr j) ↦ absurd (l.not_before ((order_back (Order L) front (block ∷ back) shows.ordered).1 m v i j))
    ]

    loose_with : (m n : ℕ) → (m ≡ n → ⊥) → Tied (Alive L) (Order L) m n → (v : ℕ) × Loose (Alive L) (Order L) m v
    loose_with m n differ same = absurd (differ refl)
    loose_with m n differ (by v l t) = (v, l)

    strictly : (m n j : ℕ) → In m block → In n block → (m ≡ n → ⊥) → ((w : ℕ) → In w block → AtOr j w) → Order L j m
    strictly m n j i k differ low = elim (low m i) [
      | inr o ↦ o
      | inl e ↦ (let (v, l) = loose_with m n differ (shows.blockwise block (in_right front (block ∷ back) block (inl refl)) m n i k) in
          absurd (elim (low v (loose_in_block m v i l)) [ inl f ↦ l.differ (sym e ∙ f) | inr o ↦ l.not_before (subst (λ x. Order L x v) e o) ]))
    ]

    pub leads : 2 ≤ length block → (m : ℕ) → In m block → (a : ℕ) × (((u : ℕ) → InSome u front → AtOr u a) × Order L a m)
    leads long m i =
        let (j, line, bounds, least) = least_behind (flat front) (λ u k. (shows.only u (in_some_left u front (block ∷ back) (flat_in u front k))).0) in
        let (n, k, differ) = another (Order L) block (shows.walked block (in_right front (block ∷ back) block (inl refl))) long m i in
        (j, (λ u k. bounds u (in_flat u front k), strictly m n j i k differ (λ w l. least w (block_line w l) (λ u k. inr (above_block u w (flat_in u front k) l)))))

pub some_line_leads : SomeLineLeads
some_line_leads B s sheet front block back blocks =
    let L = of_sheet sheet B.changes in
    let h = sheet_listed B.changes s.orderly.listed sheet in
    leads L h front block back (subst (Shows (Alive L) (Order L)) blocks (set_found L h))
