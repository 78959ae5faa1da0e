-- That a line comes from what a change needs exactly where its number names one of the needs, and the line is here.
-- Assumes nothing.
use Rattle.std.proofs.Common.{◌≡◌, ℕ, suc, ◌≤◌, Bool, true, false, ◌&&◌, leb, List, [], ◌∷◌, length, Decides, sym, ap, ◌∙◌, subst, inl, inr, arith}
use Rattle.std.proofs.lemmas.Bool.{and_parts, and_left, leb-true}
use Rattle.std.proofs.lemmas.Bool.Decides.{Decides-and, Decides-like, same_from_decides}
use Rattle.change.specs.Membership.{In}
use Rattle.change.specs.Model.{Change, bringer}
use Rattle.change.specs.WellFormed.{rising, lowest_name, highest_name, is_name, is_byte, are_needs, well_formed}
use Rattle.order.specs.Table.{placed}
use Rattle.order.specs.Good.{On}
use Rattle.order.specs.Fits.{FromNeeds, Listed}
use Rattle.order.proofs.Numbers.{put_by_name}
use Rattle.order.proofs.Placed.{placed_from, placed_has, listed_formed}
use Rattle.verdict.specs.FromNeeds.{from_needs}
use Rattle.verdict.proofs.FromNeeds.{decides_among, decides_from_needs}

rising_least : (low high : ℕ) (ns : List ℕ) → rising low high ns ≡ true → (n : ℕ) → In n ns → low ≤ n
rising_least low high [] up n i = absurd i
rising_least low high (m ∷ ns) up n i =
    let (here, more) = and_parts (leb low m && leb m high) (rising (suc m) high ns) up in
    let least = leb-true low m (and_parts (leb low m) (leb m high) here).0 in
    elim i [ inl e ↦ omega arith | inr j ↦ omega (arith, rising_least (suc m) high ns more n j) ]

need_least : (c : Change) → well_formed c ≡ true → (n : ℕ) → In n c.needs → lowest_name ≤ n
need_least c formed n i =
    let behind_name = (and_parts (is_name c.name) _ formed).1 in
    let behind_sheet = (and_parts (is_byte c.sheet) _ behind_name).1 in
    let needs_are = (and_parts (are_needs c.needs) _ behind_sheet).0 in
    rising_least lowest_name highest_name c.needs (and_parts (leb (length c.needs) 32) _ needs_are).1 n i

module _ (L : List Change) (listed : Listed L) (c : Change) (formed : well_formed c ≡ true) (u : ℕ) where
  to : In (bringer u) c.needs × On (placed L) u → FromNeeds L c u
  to (need, inl e) = absurd (let least = need_least c formed (bringer u) need in omega arith)
  to (need, inr (inl e)) = absurd (let least = need_least c formed (bringer u) need in omega arith)
  to (need, inr (inr (p, i, e))) =
      let (d, j, own) = placed_from L p i in
      let name = ap bringer (sym e) ∙ put_by_name d (listed_formed L listed d j) p own in
      (d, j, subst (λ n. In n c.needs) name need, (p, own, e))

  from : FromNeeds L c u → In (bringer u) c.needs × On (placed L) u
  from (d, j, need, (p, own, e)) =
      let name = ap bringer (sym e) ∙ put_by_name d (listed_formed L listed d j) p own in
      (subst (λ n. In n c.needs) (sym name) need, inr (inr (p, placed_has L p (d, j, own), e)))

  pub from_needs_by_lines : (among here : Bool) → Decides among (In (bringer u) c.needs) → Decides here (On (placed L) u) → among && here ≡ from_needs L c u
  from_needs_by_lines among here needed held = same_from_decides _ _ (Decides-like _ to from (Decides-and among here needed held)) (decides_from_needs L listed c u)

pub not_from_others : (L : List Change) (c : Change) (u : ℕ) (among : Bool) → Decides among (In (bringer u) c.needs) → among ≡ false → among ≡ from_needs L c u
not_from_others L c u among needed e = e ∙ sym (and_left _ _ (same_from_decides _ _ (decides_among (bringer u) c.needs) needed ∙ e))
