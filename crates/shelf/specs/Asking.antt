-- What may be asked of the changes on a shelf before a change is made.
-- has_line L u: a change of L adds line u. is_line_of_sheet L sheet u: no change of another sheet adds it. room_for_adds L n: a change with so many adds would not pass a limit of a book with the changes L.
-- Assumes nothing.
use Rattle.std.specs.Prelude.{ℕ, ◌+◌, Bool, not, ◌&&◌, ◌||◌, List, length, ◌==◌, nat_le, nat_lt}
use Rattle.std.specs.List.{list_all, list_any}
use Rattle.change.specs.Model.{Change}
use Rattle.verdict.specs.FromNeeds.{adds_line}
use Rattle.history.specs.Book.{change_limit, line_limit, lines_of}

abbrev pub has_line : List Change → ℕ → Bool
has_line L u = list_any (λ d. adds_line d u) L

abbrev pub is_line_of_sheet : List Change → ℕ → ℕ → Bool
is_line_of_sheet L sheet u = list_all (λ d. not (adds_line d u) || d.sheet == sheet) L

abbrev pub room_for_adds : List Change → ℕ → Bool
room_for_adds L n = nat_lt (length L) change_limit && nat_le (lines_of L + n) line_limit
