-- Where a conflict stands, found by the walk: that it is one, that some line leads to it, and that there is none where none is found.
-- Assumes nothing.
use Rattle.std.proofs.Common.{◌≡◌, ℕ, zero, suc, ◌+◌, ◌<◌, ◌≤◌, Bool, true, List, [], ◌∷◌, ◌++◌, length, get_or, take, drop, sym, refl, ap, ◌∙◌, subst, inl, inr, arith}
use Rattle.std.specs.List.{between}
use Rattle.std.proofs.lemmas.List.Edits.{length-between, get_or-between}
use Rattle.std.proofs.lemmas.List.{length-map, take-map, get_or-map}
use Rattle.std.proofs.lemmas.Bool.{both_ways}
use Rattle.change.specs.Membership.{In, SameMembers}
use Rattle.change.specs.Model.{Change}
use Rattle.order.specs.Order.{Put, puts, through, AtOrBefore, Order, Line, Alive}
use Rattle.order.specs.Table.{bef, placed}
use Rattle.order.proofs.Fitting.{listed_sound}
use Rattle.order.proofs.Members.{in_get_or, in_mapped, mapped_in}
use Rattle.order.proofs.OneSet.{no_ring, all_inside}
use Rattle.table.specs.Held.{held}
use Rattle.lines.specs.declared.Lines.{Lines}
use Rattle.lines.specs.Lines.{numbers_of}
use Rattle.store.specs.declared.Store.{Store}
use Rattle.blocks.specs.Function.{walk, cut_all}
use Rattle.blocks.specs.Relation.{InSome, InOrder, Shows}
use Rattle.blocks.specs.Sheet.{of_sheet, lines, added, living, sheet_blocks}
use Rattle.blocks.proofs.Living.{gather_in, lines_in}
use Rattle.blocks.proofs.Reading.{in_flat, flat_in}
use Rattle.blocks.proofs.Sets.{set_found}
use Rattle.sheet.specs.declared.line.LineAt.{LineAt}
use Rattle.sheet.specs.Lines.{numbers, no_line, Orders}
use Rattle.settling.specs.Settled.{LeadsTo, Conflict}
use Rattle.settling.proofs.Cuts.{in_some_right}
use Rattle.settling.proofs.Leading.{leads}
use Rattle.settling.proofs.Lines.{ends_are_lines}
use Rattle.display.specs.Held.{latest, Held}
use Rattle.conflicts.specs.Walks.{Placed}
use Rattle.conflicts.specs.Block.{IsBlock, NoBlockOf}
use Rattle.conflicts.specs.Leading.{leads_from, NoneLeads, SomeLeads}
use Rattle.conflicts.specs.Found.{NoConflict}
use Rattle.conflicts.proofs.Slots.{listed, start_placed, placed_order, leads_from_lem, leads_to}
use Rattle.conflicts.proofs.Blocks.{flat_cut_all, in_one_block}

some_in : (us : List ℕ) → 2 ≤ length us → (u : ℕ) × In u us
some_in [] long = absurd (omega arith)
some_in (u ∷ us) long = (u, inl refl)

pub line_added : (T : List Change) (u : ℕ) (p : Put) (d : Change) → In d T → In p (puts d) → p.line ≡ u → In u (added T)
line_added T u p d i j e = subst (λ v. In v (added T)) e (gather_in (λ c. lines (puts c)) p.line T d i (lines_in (puts d) p j))

module _ (s : Store) (l : Lines) (held_so : Held s l) (n : ℕ) (ws : List LineAt)
    (here : (a : LineAt) → In a ws → Placed (of_sheet n (latest s)) (numbers_of l) a)
    (walked : numbers ws ≡ walk (bef (placed (of_sheet n (latest s)))) (length (living (of_sheet n (latest s)))) (living (of_sheet n (latest s)))) where
  abbrev T : List Change
  T = of_sheet n (latest s)

  abbrev before : ℕ → ℕ → Bool
  before = bef (placed T)

  abbrev Q : ℕ → ℕ → Bool
  Q = held l.table

  orders : Orders Q ws before
  orders a b i j = placed_order s l held_so n a b (here a i) (here b j)

  cut_is_blocks : cut_all before (numbers ws) ≡ sheet_blocks T
  cut_is_blocks = ap (cut_all before) walked

  shows : Shows (Alive T) (Order T) (sheet_blocks T)
  shows = set_found T (listed s l held_so n)

  never : (u : ℕ) → Order T u u → ⊥
  never = no_ring T (listed_sound T (listed s l held_so n))

  -- the block at these places
  module _ (start end : ℕ) (block : IsBlock Q ws start end) where
    abbrev part : List ℕ
    part = between start end (numbers ws)

    abbrev front : List (List ℕ)
    front = (block.above before orders).0

    abbrev back : List (List ℕ)
    back = cut_all before (drop end (numbers ws))

    in_part : (k : ℕ) → start + k < end → In (get_or (numbers ws) (start + k) 0) part
    in_part k less =
        subst (λ u. In u part) (get_or-between (numbers ws) start end k 0 less)
        (in_get_or part k 0 (omega (arith, length-between (numbers ws) start end (omega (arith, block.within, length-map ws (λ a. a.number.0))))))

    blocks : sheet_blocks T ≡ front ++ part ∷ back
    blocks = sym cut_is_blocks ∙ (block.above before orders).2 ∙ ap (λ bs. front ++ bs) (block.here before orders)

    abbrev m : LineAt
    m = get_or ws start no_line

    start_within : start < length ws
    start_within = omega (arith, block.some, block.within)

    m_placed : Placed T (numbers_of l) m
    m_placed = here m (in_get_or ws start no_line start_within)

    pub member : In m.number.0 part
    member = subst (λ u. In u part) (ap (λ k. get_or (numbers ws) k 0) (omega arith) ∙ get_or-map (λ a. a.number.0) ws start no_line 0 start_within) (in_part 0 (omega (arith, block.some)))

    above_placed : (a : LineAt) → In a (take start ws) → Placed T (numbers_of l) a
    above_placed a i = here a (taken start ws i)
      where
        taken : (k : ℕ) (bs : List LineAt) → In a (take k bs) → In a bs
        taken zero bs j = absurd j
        taken (suc k) [] j = j
        taken (suc k) (b ∷ bs) (inl e) = inl e
        taken (suc k) (b ∷ bs) (inr j) = inr (taken k bs j)

    -- the lines of the blocks above are those of the walk above
    front_line : (u : ℕ) → InSome u front → (a : LineAt) × In a (take start ws) × (u ≡ a.number.0)
    front_line u i = in_mapped (λ a. a.number.0) u (take start ws) (subst (In u) ((block.above before orders).1 ∙ take-map (λ a. a.number.0) start ws) (in_flat u front i))

    front_has : (a : LineAt) → In a (take start ws) → InSome a.number.0 front
    front_has a i = flat_in a.number.0 front (subst (In a.number.0) (sym ((block.above before orders).1 ∙ take-map (λ a. a.number.0) start ws)) (mapped_in (λ a. a.number.0) a (take start ws) i))

    module _ (all : List LineAt) (All-here : (a : LineAt) → In a all → Placed T (numbers_of l) a) where
      leads_by : (x : LineAt) → Placed T (numbers_of l) x → leads_from Q (take start ws) m.slot x.slot ≡ true → LeadsTo T front x.number.0 m.number.0
      leads_by x px t =
          let (up, order) = leads_from_lem s l held_so n (take start ws) m x above_placed m_placed px t in
          (λ u i. let (a, j, e) = front_line u i in subst (λ v. AtOrBefore (Order T) v x.number.0) (sym e) (up a j), order)

      some_leads : (u : ℕ) → SomeLeads Q (take start ws) m.slot all u → LeadsTo T front u m.number.0
      some_leads u (inl (e, t)) = subst (λ v. LeadsTo T front v m.number.0) (sym e) (leads_by no_line (start_placed s l held_so n no_line refl refl) t)
      some_leads u (inr (a, i, e, t)) = subst (λ v. LeadsTo T front v m.number.0) e (leads_by a (All-here a i) t)

      pub is_conflict : (order : List ℕ) → 2 ≤ length part → SameMembers order part → (u : ℕ) → SomeLeads Q (take start ws) m.slot all u → Conflict T order u m.number.0
      is_conflict order long same u leading =
          record { front = front; block = part; back = back; blocks = blocks; long = long; same = same; member = member; leads = some_leads u leading }

      leads_so : (x : LineAt) → Placed T (numbers_of l) x → LeadsTo T front x.number.0 m.number.0 → leads_from Q (take start ws) m.slot x.slot ≡ true
      leads_so x px (up, order) = leads_to s l held_so n (take start ws) m x above_placed m_placed px (λ a i. up a.number.0 (front_has a i)) order

      pub some_must_lead : 2 ≤ length part → numbers all ≡ added T → NoneLeads Q (take start ws) m.slot all → ⊥
      some_must_lead long whole (not_start, not_Line) =
          let (a, leading) = leads T (listed s l held_so n) front part back (subst (Shows (Alive T) (Order T)) blocks shows) long m.number.0 member in
          go a leading (ends_are_lines T (listed s l held_so n) a m.number.0 leading.1).0
        where
          m_alive : Alive T m.number.0
          m_alive = shows.only m.number.0 (subst (InSome m.number.0) (sym blocks) (in_some_right m.number.0 front (part ∷ back) (inl member)))

          go : (a : ℕ) → LeadsTo T front a m.number.0 → Line T a → ⊥
          go a leading (inl e) = both_ways _ not_start (leads_so no_line (start_placed s l held_so n no_line refl refl) (subst (λ v. LeadsTo T front v m.number.0) e leading))
          go a leading (inr (inl e)) =
              never 1 (through m.number.0 (subst (λ v. Order T v m.number.0) e leading.1) (all_inside T (listed_sound T (listed s l held_so n)) m.number.0 m_alive.0 m_alive.1).1)
          go a leading (inr (inr (p, (d, i, j), e))) =
              let (x, k, f) = in_mapped (λ b. b.number.0) a all (subst (In a) (sym whole) (line_added T a p d i j e)) in
              both_ways _ (not_Line x k) (leads_so x (All-here x k) (subst (λ v. LeadsTo T front v m.number.0) f leading))

  pub no_conflict : (order : List ℕ) → NoBlockOf Q ws order → NoConflict T order
  no_conflict [] none _ block' _ _ long same = let (u, i) = some_in block' long in same.1 u i
  no_conflict (u ∷ order) (inl none) front' block' back' blocks' long same =
      none (subst (In u) (flat_cut_all before (numbers ws)) (in_flat u (cut_all before (numbers ws)) (subst (InSome u) (sym (cut_is_blocks ∙ blocks')) (in_some_right u front' (block' ∷ back') (inl (same.0 u (inl refl)))))))
  no_conflict (u ∷ order) (inr (start, end, is, i, none)) front' block' back' blocks' long same =
      let e = in_one_block (Order T) never u (front start end is) front' (part start end is) block' (back start end is) back'
      (subst (InOrder (Order T)) (blocks start end is) shows.ordered) (sym (blocks start end is) ∙ blocks') i (same.0 u (inl refl)) in
      none (subst (λ b. 2 ≤ length b) (sym e) long) (subst (SameMembers (u ∷ order)) (sym e) same)
