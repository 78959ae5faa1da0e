-- That the lines of a shelf tell which lines its changes add, and the free slots how many more may come.
-- Assumes nothing.
use Rattle.std.proofs.Common.{◌≡◌, ℕ, ◌+◌, ◌-◌, ◌<◌, ◌≤◌, Bool, true, false, not, ◌&&◌, ◌||◌, eqb, leb, List, [], ◌∷◌, Decides, sym, refl, ap, ◌∙◌, subst, inl, inr, arith}
use Rattle.std.proofs.lemmas.Bool.{eq-eqb, and_parts, eqb-true}
use Rattle.std.proofs.lemmas.Bool.Decides.{Decides-eqb, Decides-like, same_from_decides, not_from_Decides, nat_tests}
use Rattle.change.specs.Membership.{In}
use Rattle.change.specs.Model.{Change, bringer}
use Rattle.order.specs.Order.{Put}
use Rattle.order.specs.Table.{placed}
use Rattle.order.specs.Good.{On}
use Rattle.order.specs.Fits.{FromNeeds, Listed}
use Rattle.order.proofs.Deciding.{decides_itself, decides_some, decides_every}
use Rattle.order.proofs.Fitting.{listed_sound}
use Rattle.order.proofs.Numbers.{put_by_name, line_range}
use Rattle.order.proofs.OneName.{sound_one}
use Rattle.order.proofs.Placed.{placed_from, placed_has, listed_formed}
use Rattle.change.proofs.Limits.{name_least}
use Rattle.lines.specs.Lines.{numbers_of}
use Rattle.lines.specs.Numbers.{free_in}
use Rattle.verdict.specs.FromNeeds.{adds_line, from_needs}
use Rattle.verdict.proofs.FromNeeds.{decides_from_needs}
use Rattle.history.specs.Book.{line_limit, lines_of}
use Rattle.verdict.proofs.Fitting.{decides_implies}
use Rattle.shelf.specs.declared.Shelf.{Shelf}
use Rattle.shelf.specs.Asking.{has_line, is_line_of_sheet}
use Rattle.shelf.specs.Relating.{is_of_sheet}
use Rattle.shelf.specs.Sane.{changes}
use Rattle.shelf.proofs.Keeping.{free_slots}
use Rattle.shelf.proofs.Sure.{sane}
use Rattle.shelf.proofs.Sheets.{decides_of_sheet}

module _ (L : List Change) (listed : Listed L) (u : ℕ) where
  -- a change that needs the one that would have brought the line, and no other
  abbrev asker : Change
  asker = record { name = 0; sheet = 0; needs = bringer u ∷ []; adds = []; kills = [] }

  decides_has_line : Decides (has_line L u) ((p : Put) × In p (placed L) × (p.line ≡ u))
  decides_has_line = Decides-like _ to from (subst (λ b. Decides b (FromNeeds L asker u)) same (decides_from_needs L listed asker u))
    where
      same : from_needs L asker u ≡ has_line L u
      same = ap (λ b. (b || false) && has_line L u) (eq-eqb (bringer u) (bringer u) refl)

      to : FromNeeds L asker u → (p : Put) × In p (placed L) × (p.line ≡ u)
      to (d, i, n, (p, j, e)) = (p, placed_has L p (d, i, j), e)

      from : (p : Put) × In p (placed L) × (p.line ≡ u) → FromNeeds L asker u
      from (p, i, e) = let (d, j, own) = placed_from L p i in (d, j, inl (sym (put_by_name d (listed_formed L listed d j) p own) ∙ ap bringer e), (p, own, e))

  pub line_here : 2 ≤ u → (here : Bool) → Decides here (On (placed L) u) → here ≡ has_line L u
  line_here high here is_on = same_from_decides _ _ (Decides-like _ (λ on. elim on [ inl e ↦ absurd (omega arith) | inr (inl e) ↦ absurd (omega arith) | inr (inr h) ↦ h ]) (λ h. inr (inr h)) is_on) decides_has_line

  pub none_adds_the_start_or_end : u < 2 → false ≡ has_line L u
  none_adds_the_start_or_end low = same_from_decides _ _ (λ e. absurd (both e), λ (p, i, e). absurd (none p i e)) decides_has_line
    where
      both : false ≡ true → ⊥
      both e = let z : ◌≡◌ {A = ℕ} 0 1 = cc in omega arith

      none : (p : Put) → In p (placed L) → p.line ≡ u → ⊥
      none p i e =
          let (d, j, own) = placed_from L p i in
          let formed = listed_formed L listed d j in
          omega (arith, line_range d formed p own, name_least d formed)

  adder_named : (d : Change) → adds_line d u ≡ true → d.name ≡ bringer u
  adder_named d t = eqb-true _ _ (and_parts (eqb d.name (bringer u)) _ t).0

  module _ (sheet : ℕ) where
    decides_line_of_sheet : Decides (is_line_of_sheet L sheet u) ((d : Change) → In d L → adds_line d u ≡ true → d.sheet ≡ sheet)
    decides_line_of_sheet =
        decides_every (λ d. not (adds_line d u) || eqb d.sheet sheet) (λ d. adds_line d u ≡ true → d.sheet ≡ sheet)
        (λ d. decides_implies _ _ (decides_itself (adds_line d u)) (Decides-eqb d.sheet sheet)) L

    adder : Decides (has_line L u) ((d : Change) × In d L × (adds_line d u ≡ true))
    adder = decides_some (λ d. adds_line d u) (λ d. adds_line d u ≡ true) (λ d. decides_itself (adds_line d u)) L

    pub unknown_is_of_any_sheet : has_line L u ≡ false → true ≡ is_line_of_sheet L sheet u
    unknown_is_of_any_sheet none = sym (decides_line_of_sheet.1 (λ d i t. absurd (not_from_Decides _ adder none (d, i, t))))

    pub known_is_of_its_sheet : has_line L u ≡ true → is_of_sheet L sheet (bringer u) ≡ is_line_of_sheet L sheet u
    known_is_of_its_sheet here =
        same_from_decides _ _ (Decides-like _ (λ all d i t. all d i (adder_named d t)) from (decides_of_sheet L sheet (bringer u))) decides_line_of_sheet
      where
        from : ((d : Change) → In d L → adds_line d u ≡ true → d.sheet ≡ sheet) → (d : Change) → In d L → d.name ≡ bringer u → d.sheet ≡ sheet
        from all d i name =
            let (x, j, t) = adder.0 here in
            ap (λ c. c.sheet) (sound_one L (listed_sound L listed) d x i j (name ∙ sym (adder_named x t))) ∙ all x j t

pub slots_tell_room_for : (s : Shelf) (adds free : ℕ) → free ≡ free_in (numbers_of s.lines) → leb adds (free - 64) ≡ leb (lines_of (changes s) + adds) line_limit
slots_tell_room_for s adds free same =
    let slots = free_slots s in
    let few = (sane s).few_lines in
    grind (arith, nat_tests)
