use Rattle.history.specs.Book.{is_ready}
use Rattle.books.specs.Next.{Marks}
use Rattle.books.specs.Sane.{model_of}
use Rattle.books.proofs.Next.{lowest_from}
use Rattle.books.proofs.Book.lowest_ready.Given as goal

-- the lowest of those that were looked at
abbrev pub invariant-loop-place : goal.invariant-loop-place
invariant-loop-place l = Marks (model_of l.self).waiting l.lowest (lowest_from (is_ready (model_of l.self)) (model_of l.self).waiting l.place)
