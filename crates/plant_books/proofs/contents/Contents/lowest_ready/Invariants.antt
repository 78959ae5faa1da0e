use Rattle.history.specs.Book.{is_ready}
use Rattle.plant_books.specs.Next.{Marks}
use Rattle.plant_books.specs.Sane.{model_of}
use Rattle.plant_books.proofs.Next.{lowest_from}
use Rattle.plant_books.proofs.contents.Contents.lowest_ready.Given as goal

-- the lowest of those that were looked at
abbrev pub invariant-loop-place : goal.invariant-loop-place
invariant-loop-place l = Marks (model_of l.self).waiting l.lowest (lowest_from (is_ready (model_of l.self)) (model_of l.self).waiting l.place)
