-- That a listing made from all lines of a sheet tells of each what the sheet's changes say.
-- Assumes nothing.
use Rattle.std.proofs.Common.{◌≡◌, ℕ, ◌<◌, true, List, [], ◌∷◌, map, length, vec_items, All, sym, refl, ap, ◌∙◌, subst, inl, inr, arith}
use lib.ListN.{length-map}
use Rattle.std.specs.List.{flat_map, list_all}
use Rattle.std.specs.List.Sorted.{IsPermutation, IsNonDecreasing, IsNonDecreasingBy}
use Rattle.std.proofs.lemmas.List.Elements.{All-nil, All-cons, All-map}
use Rattle.std.proofs.lemmas.List.{get_or-map}
use Rattle.std.proofs.lemmas.Bool.{and_parts}
use Rattle.std.proofs.lemmas.List.Sorted.{All-permutation, IsPermutation-map}
use Rattle.change.specs.Membership.{In}
use Rattle.change.specs.Model.{Change}
use Rattle.change.specs.View.{inside}
use Rattle.order.specs.Fits.{Listed}
use Rattle.blocks.specs.Sheet.{added, unkilled}
use Rattle.sheet.specs.declared.line.LineAt.{LineAt}
use Rattle.sheet.specs.Lines.{numbers, line_inside}
use Rattle.display.specs.declared.gathered.Gathered.{Gathered}
use Rattle.display.specs.declared.listing.ListedLine.{ListedLine}
use Rattle.display.specs.Added.{added_by, spared, sparing}
use Rattle.display.specs.Gathered.{Gives}
use Rattle.display.specs.Listing.{listed_numbers, listed_from, Tells}
use Rattle.display.proofs.Numbered.{numbers_joined}
use Rattle.display.proofs.Shown.{numbers_with_text, line_among}
use Rattle.display.proofs.TextOf.{text_of_line}

all_from_in : {X : Type 0} (P : X → Type 0) (xs : List X) → ((x : X) → In x xs → P x) → All P xs
all_from_in P [] h = All-nil P
all_from_in P (x ∷ xs) h = All-cons P x xs (h x (inl refl)) (all_from_in P xs (λ y i. h y (inr i)))

numbers_listed : (ks : List ℕ) (ls : List LineAt) → listed_numbers (map (listed_from ks) ls) ≡ numbers ls
numbers_listed ks [] = refl
numbers_listed ks (a ∷ ls) = ap (λ us. a.number.0 ∷ us) (numbers_listed ks ls)

abbrev not_listed : ListedLine
not_listed = record { number = record { 0 = 0 }; alive = true; text = record { start = 0; len = 0 } }

pub numbers_rise : (ls : List ListedLine) → IsNonDecreasingBy (λ a. a.number.0) ls → IsNonDecreasing (listed_numbers ls)
numbers_rise ls up i j d le less =
    let here : j < length ls = omega (arith, length-map ls (λ a. a.number.0)) in
    rw (get_or-map (λ a. a.number.0) ls i not_listed d (omega arith), get_or-map (λ a. a.number.0) ls j not_listed d here) (up i j not_listed le here)

pub all_spared : (ps : List (ℕ × List ℕ)) → sparing [] ps ≡ ps
all_spared [] = refl
all_spared (p ∷ ps) = ap (λ l. p ∷ l) (all_spared ps)

pub inside_in : (area : List ℕ) (ls : List LineAt) (a : LineAt) → list_all (line_inside area) ls ≡ true → In a ls → inside area a.text ≡ true
inside_in area [] a h i = absurd i
inside_in area (b ∷ ls) a h (inl e) = ap (line_inside area) e ∙ (and_parts (line_inside area b) (list_all (line_inside area) ls) h).0
inside_in area (b ∷ ls) a h (inr i) = inside_in area ls a (and_parts (line_inside area b) (list_all (line_inside area) ls) h).1 i

-- All lines that S adds, gathered.
module _ (ns : List ℕ) (S : List Change) (listed : Listed S) (g : Gathered) (gives : Gives ns g (sparing [] (flat_map added_by S))) where
  pub all_added : numbers (vec_items g.lines) ≡ added S
  all_added = numbers_with_text (vec_items g.texts) (vec_items g.lines) ∙ ap (map (λ p. p.0)) (gives.lines ∙ all_spared (flat_map added_by S)) ∙ numbers_joined S

  module _ (ks : List ℕ) (same : (u : ℕ) → spared ks u ≡ unkilled S u) where
    pub tells_of : (a : LineAt) → In a (vec_items g.lines) → Tells (vec_items g.texts) S (listed_from ks a)
    tells_of a i = record {
      alive = same a.number.0;
      text = sym (text_of_line S listed _ (line_among ns [] g (flat_map added_by S) gives a i));
      inside = inside_in (vec_items g.texts) (vec_items g.lines) a gives.inside i;
    }

    -- the lines, in whatever order they are listed
    module _ (ls sorted : List ListedLine) (is : ls ≡ map (listed_from ks) (vec_items g.lines)) (shuffled : IsPermutation ls sorted) where
      pub all_listed : IsPermutation (added S) (listed_numbers sorted)
      all_listed = subst (λ us. IsPermutation us (listed_numbers sorted)) (ap listed_numbers is ∙ numbers_listed ks (vec_items g.lines) ∙ all_added) (IsPermutation-map (λ (a : ListedLine). a.number.0) ls sorted shuffled)

      pub all_told : All (Tells (vec_items g.texts) S) sorted
      all_told =
          All-permutation (Tells (vec_items g.texts) S) ls sorted shuffled
          (subst (All (Tells (vec_items g.texts) S)) (sym is)
          (All-map (Tells (vec_items g.texts) S) (listed_from ks) (vec_items g.lines) (all_from_in (λ a. Tells (vec_items g.texts) S (listed_from ks a)) (vec_items g.lines) tells_of)))
