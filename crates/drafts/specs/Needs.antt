-- The lines that the parts of a request name, in the order in which they are looked at.
-- lines_in adds kills: those that the adds go behind, those that they go before, and those to be struck out.
-- Assumes nothing.
use Rattle.std.specs.Prelude.{List, ◌++◌, map}
use Rattle.change.specs.declared.names.Line.{Line}
use Rattle.change.specs.declared.span.AddAt.{AddAt}

abbrev pub lines_in : List AddAt → List Line → List Line
lines_in adds kills = map (λ a. a.after) adds ++ map (λ a. a.before) adds ++ kills
