-- Lines in their slots: what the slots say of the order of a sheet's lines.
-- Assumes nothing.
use Rattle.std.proofs.Common.{◌≡◌, ℕ, ◌<◌, Bool, true, eqb, List, length, get_or, Some, vec_items, sym, ap, ◌∙◌, subst, inl, inr, arith}
use Rattle.std.specs.List.{flat_map}
use Rattle.std.proofs.lemmas.Bool.{eqb-true, eq-eqb, and_parts, and_from, or_cases, or_left, or_right}
use Rattle.change.specs.Membership.{In}
use Rattle.change.specs.Model.{Change}
use Rattle.order.specs.Order.{AtOrBefore, Order}
use Rattle.order.specs.Table.{bef, placed}
use Rattle.order.specs.Fits.{Listed}
use Rattle.order.proofs.OneSet.{decided}
use Rattle.table.specs.Held.{held}
use Rattle.lines.specs.declared.Lines.{Lines}
use Rattle.lines.specs.Numbers.{Finds}
use Rattle.lines.specs.Lines.{numbers_of}
use Rattle.lines.proofs.Agreeing.{order_of_found}
use Rattle.store.specs.declared.Store.{Store}
use Rattle.blocks.specs.Sheet.{of_sheet, text_of}
use Rattle.blocks.proofs.Sheets.{sheet_listed}
use Rattle.sheet.specs.declared.line.LineAt.{LineAt}
use Rattle.sheet.specs.Lines.{Texts}
use Rattle.making.proofs.Tests.{decides_each}
use Rattle.display.specs.declared.gathered.Gathered.{Gathered}
use Rattle.display.specs.Added.{added_by, sparing}
use Rattle.display.specs.Gathered.{with_text, Gives}
use Rattle.display.specs.Held.{latest, Held}
use Rattle.display.proofs.Orders.{sheet_order}
use Rattle.display.proofs.Shown.{line_among, of_all}
use Rattle.display.proofs.Slots.{put_of_line}
use Rattle.display.proofs.TextOf.{change_of_line, text_of_line}
use Rattle.conflicts.specs.Walks.{Placed}
use Rattle.conflicts.specs.Leading.{at_or_before, leads_from}

module _ (s : Store) (l : Lines) (held_so : Held s l) (n : ℕ) where
  abbrev S : List Change
  S = of_sheet n (latest s)

  pub listed : Listed S
  listed = sheet_listed (latest s) held_so.listed n

  abbrev R : ℕ → ℕ → Bool
  R = held l.table

  -- lines that were gathered stand in their slots, and have their texts
  module _ (ks : List ℕ) (g : Gathered) (gives : Gives (numbers_of l) g (sparing ks (flat_map added_by S))) where
    pub gathered_placed : (a : LineAt) → In a (vec_items g.lines) → Placed S (numbers_of l) a
    gathered_placed a i =
        let (c, j, k) = change_of_line S (with_text (vec_items g.texts) a) (line_among (numbers_of l) ks g (flat_map added_by S) gives a i) in
        let (q, m, e) = put_of_line _ c.adds (with_text (vec_items g.texts) a) k in
        (inr (inr (q, (c, j, m), e)), of_all (λ b. Finds (numbers_of l) b.number.0 (Some b.slot)) (vec_items g.lines) gives.slots a i)

    pub gathered_texts : Texts (vec_items g.texts) (vec_items g.lines) (text_of S)
    gathered_texts a i = text_of_line S listed (with_text (vec_items g.texts) a) (line_among (numbers_of l) ks g (flat_map added_by S) gives a i)

  -- the start stands in the first slot
  pub start_placed : (a : LineAt) → a.number.0 ≡ 0 → a.slot ≡ 0 → Placed S (numbers_of l) a
  start_placed a e f =
      let some : 0 < length (numbers_of l) = omega (arith, l.size, l.table.sized.least) in
      let first : Finds (numbers_of l) 0 (Some 0) = ((some, λ g. omega (arith, l.start)), l.start) in
      (inl e, subst (λ u. Finds (numbers_of l) u (Some a.slot)) (sym e) (subst (λ i. Finds (numbers_of l) 0 (Some i)) (sym f) first))

  pub placed_order : (a b : LineAt) → Placed S (numbers_of l) a → Placed S (numbers_of l) b → bef (placed S) a.number.0 b.number.0 ≡ R a.slot b.slot
  placed_order a b (line_a, in_a) (line_b, in_b) =
      sheet_order (latest s) held_so.listed n a.number.0 b.number.0 line_a line_b
      ∙ sym (order_of_found held_so.keeps a.number.0 b.number.0 a.slot b.slot in_a in_b)

  module _ (a b : LineAt) (pa : Placed S (numbers_of l) a) (pb : Placed S (numbers_of l) b) where
    pub order_from : R a.slot b.slot ≡ true → Order S a.number.0 b.number.0
    order_from t = (decided S listed a.number.0 b.number.0).0 (placed_order a b pa pb ∙ t)

    pub order_to : Order S a.number.0 b.number.0 → R a.slot b.slot ≡ true
    order_to o = sym (placed_order a b pa pb) ∙ (decided S listed a.number.0 b.number.0).1 o

    pub at_from : at_or_before R a.slot b.slot ≡ true → AtOrBefore (Order S) a.number.0 b.number.0
    at_from t = elim (or_cases (eqb a.slot b.slot) _ t) [
      | inl e ↦ inl (sym pa.1.1 ∙ ap (λ i. get_or (numbers_of l) i 0) (eqb-true _ _ e) ∙ pb.1.1)
      | inr r ↦ inr (order_from r)
    ]

    pub at_to : AtOrBefore (Order S) a.number.0 b.number.0 → at_or_before R a.slot b.slot ≡ true
    at_to (inl e) = or_left _ _ (eq-eqb _ _ (held_so.keeps.once a.slot b.slot pa.1.0 pb.1.0 (pa.1.1 ∙ e ∙ sym pb.1.1)))
    at_to (inr o) = or_right (eqb a.slot b.slot) _ (order_to o)

  -- what the slots say of a line that leads
  module _ (above : List LineAt) (m x : LineAt) (all : (a : LineAt) → In a above → Placed S (numbers_of l) a) (pm : Placed S (numbers_of l) m) (px : Placed S (numbers_of l) x) where
    pub leads_from_lem : leads_from R above m.slot x.slot ≡ true → ((a : LineAt) → In a above → AtOrBefore (Order S) a.number.0 x.number.0) × Order S x.number.0 m.number.0
    leads_from_lem t =
        let (before, up) = and_parts (R x.slot m.slot) _ t in
        (λ a i. at_from a x (all a i) px ((decides_each (λ b. at_or_before R b.slot x.slot) above).0 up a i), order_from x m px pm before)

    pub leads_to : ((a : LineAt) → In a above → AtOrBefore (Order S) a.number.0 x.number.0) → Order S x.number.0 m.number.0 → leads_from R above m.slot x.slot ≡ true
    leads_to up before =
        and_from _ _ (order_to x m px pm before)
        ((decides_each (λ b. at_or_before R b.slot x.slot) above).1 (λ a i. at_to a x (all a i) px (up a i)))
