-- The lines of a change as its view has them: their numbers, their texts, and one more of those that are spared.
-- Assumes nothing.
use Rattle.std.proofs.Common.{◌≡◌, ℕ, zero, suc, ◌+◌, ◌<◌, ◌≤◌, Bool, true, false, cond, List, [], ◌∷◌, ◌++◌, length, get_or, take, is_some, Some, None, Option, sym, refl, ap, ◌∙◌, append_assoc, append-nil, arith}
use lib.ListN.{length-map}
use Rattle.std.specs.Option.{option_map}
use Rattle.std.proofs.lemmas.List.Elements.{filter_more}
use Rattle.std.proofs.lemmas.List.{get_or-map}
use Rattle.std.proofs.lemmas.Option.{slice_get-get_or}
use Rattle.std.proofs.lemmas.Bool.Decides.{nat_tests}
use Rattle.change.specs.declared.view.ChangeView.{ChangeView}
use Rattle.change.specs.Few.{listed}
use Rattle.change.specs.Model.{Add, Change, line_of}
use Rattle.change.specs.View.{no_add, add_seen}
use Rattle.change.specs.Viewed.{viewed, text_at}
use Rattle.change.specs.WellFormed.{well_formed}
use Rattle.change.proofs.Limits.{adds_most}
use Rattle.lines.specs.Numbers.{Finds}
use Rattle.display.specs.Added.{added_from, added_by, spared, sparing}
use Rattle.display.specs.Gathered.{HasSlot}

abbrev pub no_line : ℕ × List ℕ
no_line = (0, [])

length_added : (n : ℕ) (adds : List Add) → length (added_from n adds) ≡ length adds
length_added n [] = refl
length_added n (a ∷ adds) = ap suc (length_added (suc n) adds)

added_at : (n : ℕ) (adds : List Add) (k : ℕ) (d : Add) → k < length adds → get_or (added_from n adds) k no_line ≡ (n + k, (get_or adds k d).text)
added_at n [] k d less = absurd (omega arith)
added_at n (a ∷ adds) zero d less = ap (λ m. (m, a.text)) (omega arith)
added_at n (a ∷ adds) (suc k) d less = added_at (suc n) adds k d (omega arith) ∙ ap (λ m. (m, (get_or adds k d).text)) (omega arith)

pub name_most : (c : Change) → well_formed c ≡ true → c.name ≤ 67108863
name_most c h = grind (arith, nat_tests)

module _ (v : ChangeView) where
  pub length_lines : length (added_by (viewed v)) ≡ length (listed v.adds)
  length_lines = length_added (line_of v.name.0 0) (viewed v).adds ∙ length-map (listed v.adds) add_seen

  pub few_adds : length (listed v.adds) ≤ 64
  few_adds = omega (arith, length-map (listed v.adds) add_seen, adds_most (viewed v) v.well)

  pub line_at : (k u : ℕ) → u ≡ line_of v.name.0 k → k < length (listed v.adds) → get_or (added_by (viewed v)) k no_line ≡ (u, (get_or (listed v.adds) k no_add).text.now)
  line_at k u at less =
      added_at (line_of v.name.0 0) (viewed v).adds k (add_seen no_add) (omega (arith, length-map (listed v.adds) add_seen))
      ∙ (λ i. (number i, (get_or-map add_seen (listed v.adds) k no_add (add_seen no_add) less i).text))
    where
      number : line_of v.name.0 0 + k ≡ u
      number = omega (arith, at)

  pub text_at_lem : (k : ℕ) → k < length (listed v.adds) → text_at (viewed v) k ≡ Some (get_or (listed v.adds) k no_add).text.now
  text_at_lem k less =
      ap (option_map (λ a. a.text)) (slice_get-get_or (viewed v).adds k (add_seen no_add) (omega (arith, length-map (listed v.adds) add_seen)))
      ∙ ap Some (λ i. (get_or-map add_seen (listed v.adds) k no_add (add_seen no_add) less i).text)

module _ (v : ChangeView) (k u : ℕ) (at : u ≡ line_of v.name.0 k) (less : k < length (listed v.adds)) (ks : List ℕ) (ps : List (ℕ × List ℕ)) where
  abbrev all : List (ℕ × List ℕ)
  all = added_by (viewed v)

  abbrev here : ℕ × List ℕ
  here = get_or all k no_line

  next : (b : Bool) → spared ks u ≡ b → sparing ks (take (k + 1) all) ≡ sparing ks (take k all) ++ cond b (here ∷ []) []
  next b e =
      filter_more (λ p. spared ks p.0) all k no_line (omega (arith, length_lines v))
      ∙ ap (λ t. sparing ks (take k all) ++ cond t (here ∷ []) []) (ap (λ p. spared ks p.0) (line_at v k u at less) ∙ e)

  pub line_pushed : (text : List ℕ) → text_at (viewed v) k ≡ Some text → spared ks u ≡ true →
      (ps ++ sparing ks (take k all)) ++ (u, text) ∷ [] ≡ ps ++ sparing ks (take (k + 1) all)
  line_pushed text is e =
      let own : text ≡ (get_or (listed v.adds) k no_add).text.now = let t = text_at_lem v k less in cc in
      append_assoc ps (sparing ks (take k all)) ((u, text) ∷ [])
      ∙ ap (λ p. ps ++ (sparing ks (take k all) ++ p ∷ [])) (ap (λ t. (u, t)) own ∙ sym (line_at v k u at less))
      ∙ ap (λ l. ps ++ l) (sym (next true e))

  pub line_left_out : spared ks u ≡ false → ps ++ sparing ks (take k all) ≡ ps ++ sparing ks (take (k + 1) all)
  line_left_out e = ap (λ l. ps ++ l) (sym (next false e ∙ append-nil (sparing ks (take k all))))

pub found_where_it_has_one : (ns : List ℕ) (u : ℕ) (r : Option ℕ) → Finds ns u r → HasSlot ns u → is_some r ≡ true
found_where_it_has_one ns u None none (i, used, e) = absurd (none i used e)
found_where_it_has_one ns u (Some i) found has = refl

pub some_if_mapped : {X Y : Type 0} (f : X → Y) (o : Option X) (y : Y) → option_map f o ≡ Some y → is_some o ≡ true
some_if_mapped f None y e = let z : ◌≡◌ {A = ℕ} 0 1 = cc in absurd (omega arith)
some_if_mapped f (Some x) y e = refl
