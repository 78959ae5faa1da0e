-- What a book holds in memory, and the book that it is to the theory.
-- model_of b: that book. wait_bytes: the bytes that the changes which wait have at most. Whole b: what holds at every moment: there is room for all that may come and for all that may wait, and the book is orderly.
-- Sane b: besides, nothing that waits is ready.
-- Assumes nothing.
use Rattle.std.specs.Prelude.{ℕ, ◌*◌, ◌≤◌}
use Rattle.change.specs.Model.{count_of}
use Rattle.change.specs.WellFormed.{highest_name}
use Rattle.shelf.specs.Sane.{changes}
use Rattle.shelf.specs.Roomy as shelves
use Rattle.store.specs.declared.Store.{Store}
use Rattle.store.specs.Kept.{kept}
use Rattle.store.specs.Room.{most, space}
use Rattle.history.specs.Book as model
use Rattle.history.specs.Sane as histories
use Rattle.plant_books.specs.declared.contents.Contents.{Contents}

abbrev pub model_of : Contents → model.Book
model_of b = record { plant = b.plant.number; highest = b.highest; changes = changes b.shelf; waiting = kept b.waiting }

-- a change has at most 8,649 bytes
abbrev pub wait_bytes : ℕ
wait_bytes = model.wait_limit * 8649

pub record Roomy (w : Store) : Type 0 where
  pub most : model.wait_limit ≤ most w
  pub space : wait_bytes ≤ space w

pub record Whole (b : Contents) : Type 0 where
  pub to_come : shelves.Roomy b.shelf.store
  pub to_wait : Roomy b.waiting
  pub orderly : histories.Orderly (model_of b)
  pub counted : b.highest ≤ count_of highest_name

pub record Sane (b : Contents) : Type 0 where
  pub whole : Whole b
  pub model : histories.Sane (model_of b)
