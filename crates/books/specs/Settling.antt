-- What trying the changes that wait comes to.
-- Settled B A es fs r: of the book B, which then is A, with the events es before and fs after: A and the events that were added are those of so many tries, at most as many as there were waiting; exactly as many where the answer r is true.
-- Assumes nothing.
use Rattle.std.specs.Prelude.{◌≡◌, ℕ, ◌≤◌, Bool, true, List, ◌++◌, length}
use Rattle.history.specs.declared.Event.{Event}
use Rattle.history.specs.Book.{Book}
use Rattle.history.specs.Taking.{settled}

pub record Settled (B A : Book) (es fs : List Event) (r : Bool) : Type 0 where
  pub tries : ℕ
  pub few : tries ≤ length B.waiting
  pub events : fs ≡ es ++ (settled tries B).0
  pub book : A ≡ (settled tries B).1
  pub complete : r ≡ true → tries ≡ length B.waiting
