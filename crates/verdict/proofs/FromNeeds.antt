-- That the number of a line tells whether it comes from what a change needs.
-- Assumes nothing.
use Rattle.std.proofs.Common.{◌≡◌, ℕ, zero, suc, ◌+◌, ◌%◌, ◌<◌, true, eqb, List, [], ◌∷◌, length, Decides, sym, refl, ap, ◌∙◌, subst, inl, inr, arith}
use Rattle.std.proofs.lemmas.Bool.Decides.{Decides-eqb, Decides-ltb, Decides-and, Decides-like}
use Rattle.change.specs.Membership.{In}
use Rattle.change.specs.Model.{Add, Change, line_of, bringer}
use Rattle.change.specs.WellFormed.{well_formed}
use Rattle.order.specs.Order.{Put, puts, puts_from}
use Rattle.order.specs.Fits.{FromNeeds, Listed}
use Rattle.order.proofs.Deciding.{decides_itself, decides_some}
use Rattle.order.proofs.Numbers.{puts_range, put_by_name}
use Rattle.order.proofs.Placed.{listed_formed}
use Rattle.verdict.specs.FromNeeds.{is_among, adds_line, from_needs}

pub decides_among : (n : ℕ) (ns : List ℕ) → Decides (is_among n ns) (In n ns)
decides_among n ns = Decides-like _ (λ (m, i, e). subst (λ k. In k ns) (sym e) i) (λ i. (n, i, refl)) (decides_some (eqb n) (λ m. n ≡ m) (Decides-eqb n) ns)

pub put_at : (n : ℕ) (adds : List Add) (k : ℕ) → k < length adds → (p : Put) × In p (puts_from n adds) × (p.line ≡ n + k)
put_at n [] k h = absurd (omega arith)
put_at n (a ∷ adds) zero h = (record { line = n; after = a.after; before = a.before }, inl refl, omega arith)
put_at n (a ∷ adds) (suc k) h = let (p, i, e) = put_at (suc n) adds k (omega arith) in (p, inr i, omega arith)

decides_adds_line : (d : Change) → well_formed d ≡ true → (u : ℕ) → Decides (adds_line d u) ((p : Put) × In p (puts d) × (p.line ≡ u))
decides_adds_line d formed u = Decides-like _ to from (Decides-and _ _ (Decides-eqb d.name (bringer u)) (Decides-ltb (u % 64) (length d.adds)))
  where
    to : (d.name ≡ bringer u) × (u % 64 < length d.adds) → (p : Put) × In p (puts d) × (p.line ≡ u)
    to (e, h) = let (p, i, f) = put_at (line_of d.name 0) d.adds (u % 64) h in (p, i, omega arith)

    from : (p : Put) × In p (puts d) × (p.line ≡ u) → (d.name ≡ bringer u) × (u % 64 < length d.adds)
    from (p, i, e) = let own = put_by_name d formed p i in (sym own ∙ ap bringer e, omega (arith, puts_range _ d.adds p i))

pub decides_from_needs : (L : List Change) → Listed L → (c : Change) (u : ℕ) → Decides (from_needs L c u) (FromNeeds L c u)
decides_from_needs L l c u =
    Decides-like _ to from
    (Decides-and _ _ (decides_among (bringer u) c.needs) (decides_some (λ d. adds_line d u) (λ d. adds_line d u ≡ true) (λ d. decides_itself (adds_line d u)) L))
  where
    line : (d : Change) → In d L → Decides (adds_line d u) ((p : Put) × In p (puts d) × (p.line ≡ u))
    line d i = decides_adds_line d (listed_formed L l d i) u

    brought_by : (d : Change) → In d L → (p : Put) × In p (puts d) × (p.line ≡ u) → bringer u ≡ d.name
    brought_by d i (p, j, e) = ap bringer (sym e) ∙ put_by_name d (listed_formed L l d i) p j

    to : In (bringer u) c.needs × ((d : Change) × In d L × (adds_line d u ≡ true)) → FromNeeds L c u
    to (n, (d, i, t)) = let h = (line d i).0 t in (d, i, subst (λ k. In k c.needs) (brought_by d i h) n, h)

    from : FromNeeds L c u → In (bringer u) c.needs × ((d : Change) × In d L × (adds_line d u ≡ true))
    from (d, i, n, h) = (subst (λ k. In k c.needs) (sym (brought_by d i h)) n, (d, i, (line d i).1 h))
