-- What is asked of the lines that a request names, one add or one struck-out line at a time; L are the changes of the book.
-- is_add_of_sheet L sheet a: no change of another sheet adds one of the two lines of a. may_be_struck L sheet line: nor this line, which is neither the start nor the end. is_here L line: the line is in the book.
-- is_own name place u: u is one of so many lines of the change of this name, from its first on. may_name L name place u: the add at a place of that change may name u: it is the start, the end, such a line, or in the book. may_name_both L name place a: it may name both lines of a.
-- Assumes nothing.
use Rattle.std.specs.Prelude.{ℕ, Bool, not, ◌&&◌, ◌||◌, List, nat_le, nat_lt}
use Rattle.change.specs.declared.names.Line.{Line}
use Rattle.change.specs.declared.span.AddAt.{AddAt}
use Rattle.change.specs.Model.{Change, line_of}
use Rattle.making.specs.Making.{is_edge}
use Rattle.shelf.specs.Asking.{has_line, is_line_of_sheet}

abbrev pub is_add_of_sheet : List Change → ℕ → AddAt → Bool
is_add_of_sheet L sheet a = is_line_of_sheet L sheet a.after.0 && is_line_of_sheet L sheet a.before.0

abbrev pub may_be_struck : List Change → ℕ → Line → Bool
may_be_struck L sheet line = is_line_of_sheet L sheet line.0 && not (is_edge line.0)

abbrev pub is_here : List Change → Line → Bool
is_here L line = has_line L line.0

abbrev pub is_own : ℕ → ℕ → ℕ → Bool
is_own name place u = nat_le (line_of name 0) u && nat_lt u (line_of name place)

abbrev pub may_name : List Change → ℕ → ℕ → ℕ → Bool
may_name L name place u = is_edge u || (is_own name place u || has_line L u)

abbrev pub may_name_both : List Change → ℕ → ℕ → AddAt → Bool
may_name_both L name place a = may_name L name place a.after.0 && may_name L name place a.before.0
