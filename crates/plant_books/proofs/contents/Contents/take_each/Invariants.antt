use Rattle.std.proofs.Common.{◌≡◌, ◌+◌, ◌*◌, ◌≤◌, length, map, take, vec_items, vec_len, vec_capacity}
use Rattle.letters.specs.LetterRead.{change_in}
use Rattle.sending.specs.Receiving.{and_then, received}
use Rattle.plant_books.specs.Sane.{model_of, Sane}
use Rattle.plant_books.proofs.contents.Contents.take_each.Given as goal

-- so many were taken, and there is room for the events of the others
abbrev pub invariant-loop-change : goal.invariant-loop-change
invariant-loop-change l =
    Sane l.self
    × ((vec_items l.events, model_of l.self) ≡ and_then (vec_items l.initial.events) (received (model_of l.initial.self) (take l.change-index (map change_in l.changes))))
    × (vec_capacity l.events ≡ vec_capacity l.initial.events)
    × (vec_len l.events + length (model_of l.self).waiting ≤ vec_len l.initial.events + (2 * l.change-index + length (model_of l.initial.self).waiting))
