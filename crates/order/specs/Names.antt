-- Changes known by their names.
-- HasName S n: S has a change of the name n. has_name S n: the test for it.
-- Assumes nothing.
use Rattle.std.specs.Prelude.{◌≡◌, ℕ, Bool, List, nat_eq}
use Rattle.change.specs.Membership.{In}
use Rattle.change.specs.Model.{Change}
use Rattle.std.specs.List.{list_any}

abbrev pub HasName : List Change → ℕ → Type 0
HasName S n = (d : Change) × In d S × (d.name ≡ n)

abbrev pub has_name : List Change → ℕ → Bool
has_name S n = list_any (λ d. nat_eq d.name n) S
