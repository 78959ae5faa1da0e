-- That the requests for the pieces of a block settle it: the new lines stand in its place, each a block of its own, and all else is shown as it was.
-- Assumes nothing.
use Rattle.std.proofs.Common.{◌≡◌, ℕ, ◌⊎◌, List, ◌∷◌, ◌++◌, map, ap, ◌∙◌, subst, ap₂, inl, inr}
use Rattle.change.specs.Membership.{In, SameMembers}
use Rattle.change.specs.Model.{Change}
use Rattle.order.specs.Order.{through, AtOrBefore, Order, Alive}
use Rattle.order.specs.Fits.{Listed}
use Rattle.order.proofs.Precedes.{precedes_transitive, at_more, at_then}
use Rattle.order.proofs.Fitting.{listed_sound}
use Rattle.order.proofs.Agreement.{agree_within}
use Rattle.order.proofs.OneSet.{no_ring}
use Rattle.blocks.specs.Bytes.{sheet_bytes}
use Rattle.blocks.specs.Relation.{InSome, Shows}
use Rattle.blocks.specs.Sheet.{of_sheet, text_of, sheet_blocks}
use Rattle.blocks.specs.Strict.{Strict}
use Rattle.blocks.specs.Theorems.{flat}
use Rattle.blocks.proofs.Sheets.{sheet_listed}
use Rattle.blocks.proofs.Sets.{set_found, set_one_way}
use Rattle.history.specs.Book.{next_name}
use Rattle.settling.specs.Requests.{new_lines}
use Rattle.settling.specs.Settled.{singles, plain_lines}
use Rattle.settling.specs.Theorems.{SettlesInPieces}
use Rattle.settling.proofs.Cuts.{in_some_left, in_some_right, in_some_either, order_across, order_back}
use Rattle.settling.proofs.Replaced.{shows_replaced}
use Rattle.settling.proofs.Lines.{line_is_text, dead_is_line}
use Rattle.settling.proofs.Linked.{linked_before, linked_behind, linked_chained}
use Rattle.settling.proofs.Grows.{Grows, lines_within, order_within, dead_within}
use Rattle.settling.proofs.Bytes.{sheet_bytes_on, singles_bytes, sheet_bytes_alike}
use Rattle.settling.proofs.Pieces.{all_made}

-- a set that grew by lines in the place of a block
module _ (L : List Change) (h : Listed L) (front : List (List ℕ)) (block : List ℕ) (back : List (List ℕ)) (blocks : sheet_blocks L ≡ front ++ block ∷ back)
    (a m : ℕ) (in_block : In m block) (ahead : (u : ℕ) → InSome u front → AtOrBefore (Order L) u a)
    (M : List Change) (kills news : List ℕ) (texts : List (List ℕ)) (all : SameMembers kills block) (g : Grows L M a m kills news texts) where
  strict : Strict (Order M)
  strict = record { never = no_ring M (listed_sound M g.listed); onward = through }

  shows : Shows (Alive L) (Order L) (front ++ block ∷ back)
  shows = subst (Shows (Alive L) (Order L)) blocks (set_found L h)

  abbrev Other : ℕ → Type 0
  Other u = InSome u front ⊎ InSome u back

  other_alive : (u : ℕ) → Other u → Alive L u
  other_alive u (inl i) = shows.only u (in_some_left u front (block ∷ back) i)
  other_alive u (inr i) = shows.only u (in_some_right u front (block ∷ back) (inr i))

  block_alive : (u : ℕ) → In u block → Alive L u
  block_alive u i = shows.only u (in_some_right u front (block ∷ back) (inl i))

  -- a line is in one block only
  other_not_in_block : (u : ℕ) → Other u → In u block → ⊥
  other_not_in_block u (inl i) j = no_ring L (listed_sound L h) u (order_across (Order L) front (block ∷ back) shows.ordered u u i (inl j))
  other_not_in_block u (inr i) j = no_ring L (listed_sound L h) u ((order_back (Order L) front (block ∷ back) shows.ordered).1 u u j i)

  stand : (u v : ℕ) → Other u → Other v → (Order L u v → Order M u v) × (Order M u v → Order L u v)
  stand u v i j = agree_within L M (listed_sound L h) (listed_sound M g.listed) g.within u v (other_alive u i).0 (other_alive v j).0

  others_live : (u : ℕ) → Other u → Alive M u
  others_live u i =
      let (line, high, alive) = other_alive u i in
      (lines_within L M g.within u line, high, λ d. elim (g.dead u d) [ inl e ↦ alive e | inr k ↦ other_not_in_block u i (all.0 u k) ])

  news_live : (u : ℕ) → In u news → Alive M u
  news_live u i =
      let (line, high, fresh) = g.new u i in
      (line, high, λ d. elim (g.dead u d) [ inl e ↦ fresh (dead_is_line L h u e) | inr k ↦ fresh (block_alive u (all.0 u k)).0 ])

  none_else : (u : ℕ) → Alive M u → Other u ⊎ In u news
  none_else u (line, high, alive) = elim (g.lines u line) [
    | inl l ↦ elim (in_some_either u front (block ∷ back) (shows.all u (l, high, λ d. alive (dead_within L M g.within u d)))) [
      | inl i ↦ inl (inl i)
      | inr (inl i) ↦ absurd (alive (g.struck u (all.1 u i)))
      | inr (inr i) ↦ inl (inr i)
    ]
    | inr i ↦ inr i
  ]

  behind_front : (u v : ℕ) → InSome u front → In v news → Order M u v
  behind_front u v i j =
      at_then precedes_transitive (at_more (order_within L M g.within) u a (ahead u i)) (linked_behind (Order M) m precedes_transitive a news g.linked v j)

  before_back : (u v : ℕ) → In u news → InSome v back → Order M u v
  before_back u v i j =
      through m (linked_before (Order M) m a news g.linked u i)
      (order_within L M g.within m v ((order_back (Order L) front (block ∷ back) shows.ordered).1 m v in_block j))

  pub blocks_after : sheet_blocks M ≡ front ++ (singles news ++ back)
  blocks_after =
      set_one_way M M (listed_sound M g.listed) (λ x i. i, λ x i. i) (sheet_blocks M) (front ++ (singles news ++ back)) (set_found M g.listed)
      (shows_replaced (Alive L) (Alive M) (Order L) (Order M) strict front back block news shows stand others_live news_live none_else
      (linked_chained (Order M) m precedes_transitive a news g.linked) behind_front before_back)

  text_kept : (u : ℕ) → Other u → text_of M u ≡ text_of L u
  text_kept u i = let (line, high, _) = other_alive u i in g.texts_old u line high

  pub bytes_after : sheet_bytes (text_of M) (sheet_blocks M) ≡ sheet_bytes (text_of L) front ++ (plain_lines texts ++ sheet_bytes (text_of L) back)
  bytes_after =
      ap (sheet_bytes (text_of M)) blocks_after
      ∙ sheet_bytes_on (text_of M) front (singles news ++ back)
      ∙ ap₂ ◌++◌ (sheet_bytes_alike (text_of M) (text_of L) front (λ u i. text_kept u (inl i)))
      (sheet_bytes_on (text_of M) (singles news) back
      ∙ ap₂ ◌++◌ (singles_bytes (text_of M) news ∙ ap plain_lines g.texts_new) (sheet_bytes_alike (text_of M) (text_of L) back (λ u i. text_kept u (inr i))))

pub settles_in_pieces : SettlesInPieces
settles_in_pieces B s low still sheet front block back blocks pieces few all a m in_block (ahead, leads) room =
    let L = of_sheet sheet B.changes in
    let h = sheet_listed B.changes s.orderly.listed sheet in
    let shows = subst (Shows (Alive L) (Order L)) blocks (set_found L h) in
    let alive : (u : ℕ) → In u block → Alive L u = λ u i. shows.only u (in_some_right u front (block ∷ back) (inl i)) in
    let (A, made, sane, g, elsewhere) =
    all_made sheet (text_of L) m (alive m in_block).1 pieces B s low still a leads
    (λ u i. let (line, high, _) = alive u (all.0 u i) in (line, high, line_is_text L h u line high)) few room in
    let M = of_sheet sheet A.changes in (
      A,
      made,
      sane,
      record {
        blocks = blocks_after L h front block back blocks a m in_block ahead M (flat pieces) (new_lines (next_name B) pieces) (map (text_of L) (flat pieces)) all g;
        texts = g.texts_new;
        bytes = bytes_after L h front block back blocks a m in_block ahead M (flat pieces) (new_lines (next_name B) pieces) (map (text_of L) (flat pieces)) all g;
        elsewhere = λ other ne. ap (λ S. sheet_bytes (text_of S) (sheet_blocks S)) (elsewhere other ne);
      },
    )
