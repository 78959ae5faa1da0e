-- The parts of the test whether a change is related to those that are here.
-- SheetOf L n r: r is the sheet of the change of L that has the name n, or none where no change has it. is_of_sheet L s n: the change of L that has this name, if there is one, is of the sheet s.
-- earlier c place: the puts of c before the one at that place, the latest first. are_named from earlier u v: a put behind these may name the lines u and v.
-- Assumes nothing.
use Rattle.std.specs.Prelude.{◌≡◌, ℕ, Bool, not, ◌&&◌, ◌||◌, List, reverse, take, Some, None, Option, ◌==◌}
use Rattle.std.specs.List.{list_all}
use Rattle.change.specs.declared.names.Sheet.{Sheet}
use Rattle.change.specs.Membership.{In}
use Rattle.change.specs.Model.{Change}
use Rattle.order.specs.Names.{HasName}
use Rattle.order.specs.Order.{Put, puts}
use Rattle.verdict.specs.Verdict.{is_named}

abbrev pub SheetOf : List Change → ℕ → Option Sheet → Type 0
SheetOf L n None = HasName L n → ⊥
SheetOf L n (Some s) = (d : Change) × In d L × (d.name ≡ n) × (d.sheet ≡ s.0)

abbrev pub is_of_sheet : List Change → ℕ → ℕ → Bool
is_of_sheet L s n = list_all (λ d. not (d.name == n) || d.sheet == s) L

abbrev pub earlier : Change → ℕ → List Put
earlier c place = reverse (take place (puts c))

abbrev pub are_named : (ℕ → Bool) → List Put → ℕ → ℕ → Bool
are_named from earlier u v = is_named from earlier u && is_named from earlier v
