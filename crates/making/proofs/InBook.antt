-- Lines that the book has: that the tests tell them, and that a request which names one needs the change that adds it.
-- Assumes nothing.
use Rattle.std.proofs.Common.{◌≡◌, ℕ, ◌%◌, ◌<◌, ◌≤◌, true, length, Decides, refl, ◌∙◌, subst, arith}
use Rattle.std.proofs.lemmas.Bool.{and_parts, leb-true}
use Rattle.std.proofs.lemmas.Bool.Decides.{Decides-eqb, Decides-ltb, Decides-and, Decides-like}
use Rattle.change.specs.Membership.{In}
use Rattle.change.specs.Model.{Change, bringer}
use Rattle.change.specs.WellFormed.{well_formed, is_name, lowest_name, highest_name}
use Rattle.change.proofs.Limits.{adds_most}
use Rattle.order.proofs.Deciding.{decides_itself, decides_some}
use Rattle.order.proofs.Placed.{listed_formed}
use Rattle.verdict.specs.FromNeeds.{adds_line}
use Rattle.history.specs.Book.{Book}
use Rattle.history.specs.Sane.{Sane}
use Rattle.history.proofs.Counts.{next_is_new}
use Rattle.making.specs.Request.{Request, named_lines}
use Rattle.making.specs.Making.{change_for, is_here}
use Rattle.making.specs.Known.{Adds, InBook}
use Rattle.making.proofs.Needs.{needs_exactly}

decides_adds : (d : Change) → well_formed d ≡ true → (u : ℕ) → Decides (adds_line d u) (Adds d u)
decides_adds d formed u =
    Decides-like _ (λ (e, h). (u % 64, h, omega arith)) (λ (k, h, e). (omega (arith, adds_most d formed), omega (arith, adds_most d formed)))
    (Decides-and _ _ (Decides-eqb d.name (bringer u)) (Decides-ltb (u % 64) (length d.adds)))

module _ (B : Book) (s : Sane B) where
  formed_here : (d : Change) → In d B.changes → well_formed d ≡ true
  formed_here = listed_formed B.changes s.orderly.listed

  pub decides_adds_here : (d : Change) → In d B.changes → (u : ℕ) → Decides (adds_line d u) (Adds d u)
  decides_adds_here d i = decides_adds d (formed_here d i)

  pub decides_in_book : (u : ℕ) → Decides (is_here B u) (InBook B u)
  decides_in_book u =
      Decides-like _ (λ (d, i, t). (d, i, (decides_adds_here d i u).0 t)) (λ (d, i, a). (d, i, (decides_adds_here d i u).1 a))
      (decides_some (λ d. adds_line d u) (λ d. adds_line d u ≡ true) (λ d. decides_itself (adds_line d u)) B.changes)

  pub adder_is_bringer : (d : Change) → In d B.changes → (u : ℕ) → Adds d u → d.name ≡ bringer u
  adder_is_bringer d i u (k, h, e) = omega (arith, adds_most d (formed_here d i))

  pub bringer_in_range : (u : ℕ) → InBook B u → (lowest_name ≤ bringer u) × (bringer u ≤ highest_name)
  bringer_in_range u (d, i, a) =
      let (least, most) = and_parts _ _ (and_parts (is_name d.name) _ (formed_here d i)).0 in
      subst (λ n. (lowest_name ≤ n) × (n ≤ highest_name)) (adder_is_bringer d i u a) (leb-true _ _ least, leb-true _ _ most)

  pub not_edge : (u : ℕ) → InBook B u → 2 ≤ u
  not_edge u here = omega (arith, bringer_in_range u here)

  pub bringer_needed : B.plant < 16 → (r : Request) (u : ℕ) → In u (named_lines r) → InBook B u → In (bringer u) (change_for B r).needs
  bringer_needed low r u i here =
      let (d, j, a) = here in
      (needs_exactly B r (bringer u)).1 (u, i, not_edge u here, λ own. (next_is_new B s low).0 (d, j, adder_is_bringer d j u a ∙ own), refl)
