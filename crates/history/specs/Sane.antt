-- What holds of every book that comes about by taking changes and taking them back.
-- Distinct S: no two of the changes S have one name. Lacks S c: a change that c needs isn't in S.
-- Orderly B: what holds of the book B at every moment, also while changes that waited are tried. Sane B: what holds of it otherwise: besides, nothing that waits is ready.
-- Assumes nothing.
use Rattle.std.specs.Prelude.{◌≡◌, ℕ, ◌≤◌, true, List, [], ◌∷◌, length}
use Rattle.change.specs.Membership.{In}
use Rattle.change.specs.Model.{Change, count_of, plant_of}
use Rattle.change.specs.WellFormed.{well_formed}
use Rattle.order.specs.Names.{HasName}
use Rattle.order.specs.Fits.{Listed}
use Rattle.history.specs.Book.{Book, change_limit, line_limit, wait_limit, lines_of}

abbrev pub Distinct : List Change → Type 0
Distinct [] = Unit {0}
Distinct (c ∷ S) = (HasName S c.name → ⊥) × Distinct S

abbrev pub Lacks : List Change → Change → Type 0
Lacks S c = (n : ℕ) × In n c.needs × (HasName S n → ⊥)

pub record Orderly (B : Book) : Type 0 where
  pub listed : Listed B.changes
  pub formed : (c : Change) → In c B.waiting → well_formed c ≡ true
  pub distinct : Distinct B.waiting
  pub outside : (c : Change) → In c B.waiting → HasName B.changes c.name → ⊥
  pub few_changes : length B.changes ≤ change_limit
  pub few_lines : lines_of B.changes ≤ line_limit
  pub few_wait : length B.waiting ≤ wait_limit
  pub counted : (c : Change) → In c B.changes → plant_of c.name ≡ B.plant → count_of c.name ≤ B.highest

pub record Sane (B : Book) : Type 0 where
  pub orderly : Orderly B
  pub lacking : (c : Change) → In c B.waiting → Lacks B.changes c
