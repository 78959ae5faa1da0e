-- What making says of a request, by the changes L of the book and the name that its change is to have. At those of a book B and its next name each is what making says of B.
-- is_foreign_to name u: u is neither an edge nor a line of the change of this name. needs_named name r: what that change needs, if it does what r asks.
-- keeps_to_sheet_among L r: no line that r names is of another sheet, and neither edge is struck out. puts_named name r: the puts of the change of this name.
-- is_ordered_among L name r: those whose lines are known go between lines that stand in order. is_known_among L name r: all lines that r names are known.
-- Assumes nothing.
use Rattle.std.specs.Prelude.{ℕ, Bool, not, ◌&&◌, ◌||◌, List, [], map, filter, ◌==◌}
use Rattle.std.specs.List.{list_all}
use Rattle.change.specs.Model.{Change, line_of, bringer}
use Rattle.order.specs.Order.{Put, puts_from}
use Rattle.order.specs.Table.{bef, placed}
use Rattle.verdict.specs.Verdict.{all_named}
use Rattle.making.specs.Request.{Request, named_lines}
use Rattle.making.specs.Sorted.{sorted}
use Rattle.making.specs.Making.{is_edge, known_ordered}
use Rattle.shelf.specs.Asking.{has_line, is_line_of_sheet}

abbrev pub is_foreign_to : ℕ → ℕ → Bool
is_foreign_to name u = not (is_edge u || bringer u == name)

abbrev pub needs_named : ℕ → Request → List ℕ
needs_named name r = sorted (map bringer (filter (is_foreign_to name) (named_lines r)))

abbrev pub keeps_to_sheet_among : List Change → Request → Bool
keeps_to_sheet_among L r = list_all (is_line_of_sheet L r.sheet) (named_lines r) && list_all (λ u. not (is_edge u)) r.kills

abbrev pub puts_named : ℕ → Request → List Put
puts_named name r = puts_from (line_of name 0) r.adds

abbrev pub is_ordered_among : List Change → ℕ → Request → Bool
is_ordered_among L name r = known_ordered (has_line L) (bef (placed L)) [] (puts_named name r)

abbrev pub is_known_among : List Change → ℕ → Request → Bool
is_known_among L name r = all_named (has_line L) [] (puts_named name r) && list_all (has_line L) r.kills
