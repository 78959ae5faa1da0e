-- The number of each refusal, for tools, and what it says to people.
-- Assumes nothing.
use Rattle.std.specs.Prelude.{ℕ, List, codes}
use Rattle.change.specs.declared.refusal.Refusal.{Refusal}
use Rattle.change.specs.declared.refusal.Refusal.TheVariants.{Malformed, Known, Unrelated, Unordered, Full, Needed, Missing, Exhausted, Misplaced}

abbrev pub number_of : Refusal → ℕ
number_of Malformed = 1
number_of Known = 2
number_of Unrelated = 3
number_of Unordered = 4
number_of Full = 5
number_of Needed = 6
number_of Missing = 7
number_of Exhausted = 8
number_of Misplaced = 9

abbrev pub words_of : Refusal → List ℕ
words_of Malformed = codes "cut short, too long or not as it should be"
words_of Known = codes "a change of this name is in the book, or waits"
words_of Unrelated = codes "a need or a line of another sheet or change"
words_of Unordered = codes "the first of the two lines doesn't stand before the second"
words_of Full = codes "more than there may be"
words_of Needed = codes "it isn't in the book, or another change needs it"
words_of Missing = codes "there is no such line"
words_of Exhausted = codes "this plant's names are used up"
words_of Misplaced = codes "a record that can't follow"
