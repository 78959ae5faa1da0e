-- What a writer asks for: what a change does, before it has a name and needs.
-- Request: a sheet, the lines to add, as they come, and the lines to strike out, in any order. add_lines adds: the lines that adds go between. named_lines r: all lines that r names.
-- Assumes nothing.
use Rattle.std.specs.Prelude.{ℕ, List, [], ◌∷◌, ◌++◌}
use Rattle.change.specs.Model.{Add}

pub record Request : Type 0 where
  pub sheet : ℕ
  pub adds : List Add
  pub kills : List ℕ

abbrev pub add_lines : List Add → List ℕ
add_lines [] = []
add_lines (a ∷ adds) = a.after ∷ a.before ∷ add_lines adds

abbrev pub named_lines : Request → List ℕ
named_lines r = add_lines r.adds ++ r.kills
