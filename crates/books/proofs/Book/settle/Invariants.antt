use Rattle.std.proofs.Common.{vec_items}
use Rattle.books.specs.Sane.{model_of, Sane}
use Rattle.books.proofs.Turns.{GoesOn}
use Rattle.books.proofs.Book.settle.Given as goal

abbrev pub invariant-loop-tries : goal.invariant-loop-tries
invariant-loop-tries l = Sane l.self × GoesOn (model_of l.initial.self) (model_of l.self) l.tries (vec_items l.initial.events) (vec_items l.events)
