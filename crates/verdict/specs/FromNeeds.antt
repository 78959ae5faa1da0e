-- Whether a line comes from what a change needs, told by its number: that has the name of the change that adds it, and the add's place there.
-- is_among n ns: n is one of ns. adds_line d u: d adds line u. from_needs L c u: a change of L that c needs does.
-- Assumes nothing.
use Rattle.std.specs.Prelude.{ℕ, ◌%◌, Bool, ◌&&◌, List, length, ◌==◌, nat_eq, nat_lt}
use Rattle.change.specs.Model.{Change, bringer}
use Rattle.std.specs.List.{list_any}

abbrev pub is_among : ℕ → List ℕ → Bool
is_among n = list_any (nat_eq n)

abbrev pub adds_line : Change → ℕ → Bool
adds_line d u = d.name == bringer u && nat_lt (u % 64) (length d.adds)

abbrev pub from_needs : List Change → Change → ℕ → Bool
from_needs L c u = is_among (bringer u) c.needs && list_any (λ d. adds_line d u) L
