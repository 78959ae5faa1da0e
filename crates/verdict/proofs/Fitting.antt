-- That the tests tell what fits, and so which lists are listed.
-- OneSheet L c: what c needs of L is of its sheet. Told L l c: what the tests tell, one by one.
-- Assumes nothing.
use Rattle.std.proofs.Common.{◌≡◌, ℕ, ◌+◌, ◌≤◌, Bool, true, false, not, ◌||◌, eqb, List, [], ◌∷◌, length, Decides, sym, refl, subst, inl, inr, arith}
use Rattle.std.proofs.lemmas.Bool.{false≢true, and_parts, and_from}
use Rattle.std.proofs.lemmas.Bool.Decides.{Decides-eqb, Decides-not, Decides-and, Decides-like}
use Rattle.change.specs.Membership.{In}
use Rattle.change.specs.Model.{Change, line_of}
use Rattle.change.specs.WellFormed.{well_formed}
use Rattle.change.proofs.Limits.{adds_most}
use Rattle.order.specs.Names.{HasName, has_name}
use Rattle.order.specs.Order.{puts}
use Rattle.order.specs.Table.{placed}
use Rattle.order.specs.Fits.{FromNeeds, Fits, Listed}
use Rattle.order.proofs.Deciding.{decides_itself, decides_every}
use Rattle.order.proofs.Placed.{Ready, ready_new, placed_good}
use Rattle.order.proofs.OneName.{needs_of_sheet, has_name_lem}
use Rattle.verdict.specs.FromNeeds.{is_among, from_needs}
use Rattle.verdict.specs.Verdict.{one_sheet, all_named, is_related, is_ordered, fits}
use Rattle.verdict.specs.Theorems.{FitsDecided, ListedDecided}
use Rattle.verdict.proofs.FromNeeds.{decides_among, decides_from_needs}
use Rattle.verdict.proofs.Adds.{puts_fit_by_tests, tests_where_puts_fit}

pub decides_implies : {P Q : Type 0} (x y : Bool) → Decides x P → Decides y Q → Decides (not x || y) (P → Q)
decides_implies true y dx dy = (λ e p. dy.0 e, λ h. dy.1 (h (dx.0 refl)))
decides_implies false y dx dy = (λ e p. absurd (false≢true (dx.1 p)), λ h. refl)

abbrev pub OneSheet : List Change → Change → Type 0
OneSheet L c = (d : Change) → In d L → In d.name c.needs → d.sheet ≡ c.sheet

pub decides_one_sheet : (L : List Change) (c : Change) → Decides (one_sheet L c) (OneSheet L c)
decides_one_sheet L c =
    decides_every (λ d. not (is_among d.name c.needs) || eqb d.sheet c.sheet) (λ d. In d.name c.needs → d.sheet ≡ c.sheet)
    (λ d. decides_implies _ _ (decides_among d.name c.needs) (Decides-eqb d.sheet c.sheet)) L

module _ (L : List Change) (l : Listed L) (c : Change) where
  abbrev Told : Type 0
  Told =
      (well_formed c ≡ true) × ((HasName L c.name → ⊥) × (((n : ℕ) → In n c.needs → HasName L n)
      × ((OneSheet L c × ((all_named (from_needs L c) [] (puts c) ≡ true) × ((u : ℕ) → In u c.kills → FromNeeds L c u))) × (is_ordered L c ≡ true))))

  decides_told : Decides (fits L c) Told
  decides_told =
      Decides-and _ _ (decides_itself (well_formed c))
      (Decides-and _ _ (Decides-not _ (has_name_lem L c.name))
      (Decides-and _ _ (decides_every (has_name L) (HasName L) (has_name_lem L) c.needs)
      (Decides-and _ _ related (decides_itself (is_ordered L c)))))
    where
      related : Decides (is_related L c) (OneSheet L c × ((all_named (from_needs L c) [] (puts c) ≡ true) × ((u : ℕ) → In u c.kills → FromNeeds L c u)))
      related = Decides-and _ _ (decides_one_sheet L c) (Decides-and _ _ (decides_itself _) (decides_every (from_needs L c) (FromNeeds L c) (decides_from_needs L l c) c.kills))

  module _ (formed : well_formed c ≡ true) (new : (d : Change) → In d L → d.name ≡ c.name → ⊥) where
    room : line_of c.name 0 + length c.adds ≤ line_of c.name 64
    room = omega (arith, adds_most c formed)

    ready : Ready L [] (placed L) (line_of c.name 0) (line_of c.name 64)
    ready = ready_new L c l (placed_good L l) formed new

  told_fits : Told → Fits L c
  told_fits (formed, (new, (here, ((sheet, (named, kills)), ordered)))) =
      let new' = λ (d : Change) (i : In d L) (e : d.name ≡ c.name). new (d, i, e) in
      record {
        formed = formed;
        new = new';
        needed = λ n i. let (d, j, e) = here n i in (d, j, e, sheet d j (subst (λ k. In k c.needs) (sym e) i));
        adds = puts_fit_by_tests L c (from_needs L c) (decides_from_needs L l c) _ _ c.adds [] (placed L) (room formed new') (ready formed new') named ordered;
        kills = kills;
      }

  fits_told : Fits L c → Told
  fits_told f =
      let (named, ordered) = tests_where_puts_fit L c (from_needs L c) (decides_from_needs L l c) _ _ c.adds [] (placed L) (room f.formed f.new) (ready f.formed f.new) f.adds in
      (f.formed, (λ (d, i, e). f.new d i e, (λ n i. let (d, j, e, s) = f.needed n i in (d, j, e), ((λ d i. needs_of_sheet (c ∷ L) (f, l) c d (inl refl) (inr i), (named, f.kills)), ordered))))

pub fits_decided : FitsDecided
fits_decided L l c = Decides-like _ (told_fits L l c) (fits_told L l c) (decides_told L l c)

pub listed_decided : ListedDecided
listed_decided [] = (λ e. tt, λ l. refl)
listed_decided (c ∷ L) =
    let (to, from) = listed_decided L in (
      λ e. let (l, f) = and_parts _ _ e in ((fits_decided L (to l) c).0 f, to l),
      λ (f, l). and_from _ _ (from l) ((fits_decided L l c).1 f),
    )
