use Rattle.std.proofs.Common.{◌≡◌, ◌+◌, ◌≤◌, length, vec_items, vec_len, vec_capacity}
use Rattle.plant_books.specs.Sane.{model_of, Whole}
use Rattle.plant_books.proofs.Turns.{GoesOn}
use Rattle.plant_books.proofs.contents.Contents.settle.Given as goal

abbrev pub invariant-loop-tries : goal.invariant-loop-tries
invariant-loop-tries l =
    Whole l.self
    × GoesOn (model_of l.initial.self) (model_of l.self) l.tries (vec_items l.initial.events) (vec_items l.events)
    × (vec_len l.events ≡ vec_len l.initial.events + l.tries)
    × (vec_len l.initial.events + length (model_of l.initial.self).waiting ≤ vec_capacity l.events)
    × (vec_capacity l.events ≡ vec_capacity l.initial.events)
