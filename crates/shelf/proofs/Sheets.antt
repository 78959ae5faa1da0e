-- That a change keeps to its sheet exactly where each change that it needs is of that sheet.
-- Assumes nothing.
use Rattle.std.proofs.Common.{◌≡◌, ℕ, ◌<◌, true, not, ◌||◌, eqb, List, map, reverse, length, get_or, Some, None, Decides, Option, sym, refl, ap, ◌∙◌, arith}
use lib.ListN.{length-map}
use Rattle.std.specs.List.{slice_get, list_all}
use Rattle.std.specs.Option.{option_map}
use Rattle.std.proofs.lemmas.List.{get_or-map}
use Rattle.std.proofs.lemmas.Option.{slice_get-get_or}
use Rattle.std.proofs.lemmas.Bool.Decides.{Decides-eqb, Decides-like, same_from_decides}
use Rattle.change.specs.declared.names.Sheet.{Sheet}
use Rattle.change.specs.Membership.{In}
use Rattle.change.specs.Model.{Change}
use Rattle.order.specs.Fits.{Listed}
use Rattle.order.specs.Names.{HasName}
use Rattle.order.proofs.Deciding.{decides_every}
use Rattle.order.proofs.Fitting.{listed_sound}
use Rattle.order.proofs.Members.{in_get_or}
use Rattle.order.proofs.OneName.{sound_one}
use Rattle.verdict.specs.Verdict.{one_sheet}
use Rattle.verdict.proofs.Fitting.{decides_implies, decides_one_sheet}
use Rattle.store.specs.First.{FirstAt}
use Rattle.store.proofs.Places.{blank}
use Rattle.shelf.specs.Relating.{SheetOf, is_of_sheet}
use Rattle.shelf.proofs.Reversed.{reverse_in}
use Rattle.shelf.proofs.Finding.{found_has_the_name}

pub sheet_found : (cs : List Change) (n i : ℕ) → FirstAt (map (λ c. c.name) cs) n (Some i) → (r : Option Sheet) → option_map (λ s. s.0) r ≡ slice_get (map (λ c. c.sheet) cs) i → SheetOf (reverse cs) n r
sheet_found cs n i first r is = go r (is ∙ there)
  where
    less : i < length cs
    less = (found_has_the_name cs n i first).0

    there : slice_get (map (λ c. c.sheet) cs) i ≡ Some (get_or cs i blank).sheet
    there = slice_get-get_or (map (λ c. c.sheet) cs) i 0 (omega (arith, length-map cs (λ c. c.sheet), less)) ∙ ap Some (get_or-map (λ c. c.sheet) cs i blank 0 less)

    go : (r : Option Sheet) → option_map (λ s. s.0) r ≡ Some (get_or cs i blank).sheet → SheetOf (reverse cs) n r
    go None e = let z : ◌≡◌ {A = ℕ} 0 1 = cc in absurd (omega arith)
    go (Some s) e = let same : (get_or cs i blank).sheet ≡ s.0 = cc in (get_or cs i blank, reverse_in cs _ (in_get_or cs i blank less), (found_has_the_name cs n i first).1, same)

module _ (L : List Change) (s : ℕ) where
  pub decides_of_sheet : (n : ℕ) → Decides (is_of_sheet L s n) ((d : Change) → In d L → d.name ≡ n → d.sheet ≡ s)
  decides_of_sheet n =
      decides_every (λ d. not (eqb d.name n) || eqb d.sheet s) (λ d. d.name ≡ n → d.sheet ≡ s)
      (λ d. decides_implies _ _ (Decides-eqb d.name n) (Decides-eqb d.sheet s)) L

  -- where a change of the name was found, its sheet tells
  pub found_tells_sheet : Listed L → (n : ℕ) (found : Sheet) → SheetOf L n (Some found) → eqb found.0 s ≡ is_of_sheet L s n
  found_tells_sheet listed n found (d, i, name, is) =
      same_from_decides _ _ (Decides-eqb found.0 s)
      (Decides-like _ (λ all. sym is ∙ all d i name)
      (λ same e j also. ap (λ c. c.sheet) (sound_one L (listed_sound L listed) e d j i (also ∙ sym name)) ∙ is ∙ same) (decides_of_sheet n))

  pub none_is_of_another_sheet : (n : ℕ) → (HasName L n → ⊥) → true ≡ is_of_sheet L s n
  none_is_of_another_sheet n none = sym ((decides_of_sheet n).1 (λ d i e. absurd (none (d, i, e))))

pub one_sheet_by_needs : (L : List Change) (c : Change) → list_all (is_of_sheet L c.sheet) c.needs ≡ one_sheet L c
one_sheet_by_needs L c =
    same_from_decides _ _
    (Decides-like _ (λ all d i n. all d.name n d i refl) (λ all n i d j e. all d j (subst_name d n e i)) (decides_every (is_of_sheet L c.sheet) _ (decides_of_sheet L c.sheet) c.needs))
    (decides_one_sheet L c)
  where
    subst_name : (d : Change) (n : ℕ) → d.name ≡ n → In n c.needs → In d.name c.needs
    subst_name d n e i = rw e i
