-- What the programs answer, as bytes; every line ends with byte 10.
-- spaced number: a space and the number in decimal. name_line word name: a word and the name of a change. refused_line r about: a refusal's number, what it is about, and its words.
-- event_line e: what became of a change that came. lines_of name count: the numbers of the first lines that a change adds, so many. made_line name count: a made change and these. hex_line bytes: their digits.
-- TextInside texts a: the text of a listed line lies within the texts. listed_line texts a: its number, whether it lives, and its text. listing_lines g: all of a listing.
-- Assumes nothing.
use Rattle.std.specs.Prelude.{◌≡◌, ℕ, Bool, true, cond, List, [], ◌∷◌, ◌++◌, map, vec_items, codes, decimal}
use Rattle.std.specs.List.{range_with_len, flat_map}
use Rattle.change.specs.declared.refusal.Refusal.{Refusal}
use Rattle.change.specs.Model.{line_of}
use Rattle.change.specs.Refusals.{number_of, words_of}
use Rattle.change.specs.View.{inside}
use Rattle.history.specs.declared.Outcome.{Outcome}
use Rattle.history.specs.declared.Outcome.TheVariants.{Taken, Waits, Refused}
use Rattle.history.specs.declared.Event.{Event}
use Rattle.sheet.specs.Shown.{text_line}
use Rattle.display.specs.declared.listing.ListedLine.{ListedLine}
use Rattle.display.specs.declared.listing.Listing.{Listing}
use Rattle.console.specs.Hex.{hex_of}

abbrev pub spaced : ℕ → List ℕ
spaced number = 32 ∷ decimal number

abbrev pub name_line : List ℕ → ℕ → List ℕ
name_line word name = word ++ (spaced name ++ 10 ∷ [])

abbrev pub refused_line : Refusal → List ℕ → List ℕ
refused_line r about = codes "refused " ++ (decimal (number_of r) ++ (about ++ (codes ": " ++ (words_of r ++ 10 ∷ []))))

abbrev pub outcome_line : Outcome → ℕ → List ℕ
outcome_line Taken name = name_line (codes "taken") name
outcome_line Waits name = name_line (codes "waits") name
outcome_line (Refused r) name = refused_line r (spaced name)

abbrev pub event_line : Event → List ℕ
event_line e = outcome_line e.outcome e.name.0

abbrev pub lines_of : ℕ → ℕ → List ℕ
lines_of name count = map (line_of name) (range_with_len 0 count)

abbrev pub made_line : ℕ → ℕ → List ℕ
made_line name count = codes "made" ++ (flat_map spaced (name ∷ lines_of name count) ++ 10 ∷ [])

abbrev pub hex_line : List ℕ → List ℕ
hex_line bytes = hex_of bytes ++ 10 ∷ []

abbrev pub TextInside : List ℕ → ListedLine → Type 0
TextInside texts a = inside texts a.text ≡ true

abbrev pub state_of : Bool → List ℕ
state_of alive = cond alive (codes "alive") (codes "dead")

abbrev pub listed_line : List ℕ → ListedLine → List ℕ
listed_line texts a = decimal a.number.0 ++ 32 ∷ (state_of a.alive ++ 32 ∷ text_line texts a.text)

abbrev pub listing_lines : Listing → List ℕ
listing_lines g = flat_map (listed_line (vec_items g.texts)) (vec_items g.lines)
