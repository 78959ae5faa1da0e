-- The listing of a sheet's lines, by the fields of `Listing`.
-- listed_numbers ls: the numbers of listed lines. listed_from ks a: a as it is listed, alive unless it is among ks.
-- Tells area S a: a lives by the changes S or not, as it says, and its text in the area is that of its line. Lists S g: g has all lines that S adds, once each and by rising number, and tells of each.
-- Assumes nothing.
use Rattle.std.specs.Prelude.{◌≡◌, ℕ, true, List, map, vec_items, All}
use Rattle.std.specs.List.Sorted.{IsNonDecreasing, IsPermutation}
use Rattle.change.specs.Model.{Change}
use Rattle.change.specs.View.{cut, inside}
use Rattle.blocks.specs.Sheet.{added, unkilled, text_of}
use Rattle.sheet.specs.declared.line.LineAt.{LineAt}
use Rattle.display.specs.declared.listing.ListedLine.{ListedLine}
use Rattle.display.specs.declared.listing.Listing.{Listing}
use Rattle.display.specs.Added.{spared}

abbrev pub listed_numbers : List ListedLine → List ℕ
listed_numbers ls = map (λ a. a.number.0) ls

abbrev pub listed_from : List ℕ → LineAt → ListedLine
listed_from ks a = record { number = a.number; alive = spared ks a.number.0; text = a.text }

pub record Tells (area : List ℕ) (S : List Change) (a : ListedLine) : Type 0 where
  pub alive : a.alive ≡ unkilled S a.number.0
  pub text : cut area a.text ≡ text_of S a.number.0
  pub inside : inside area a.text ≡ true

pub record Lists (S : List Change) (g : Listing) : Type 0 where
  pub rising : IsNonDecreasing (listed_numbers (vec_items g.lines))
  pub all : IsPermutation (added S) (listed_numbers (vec_items g.lines))
  pub each : All (Tells (vec_items g.texts) S) (vec_items g.lines)
