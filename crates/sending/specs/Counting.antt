-- How the next change of a letter can be found by counting.
-- ahead T c: how many of the changes T, which are still to be sent, c needs.
-- Assumes nothing.
use Rattle.std.specs.Prelude.{ℕ, List, count_by}
use Rattle.change.specs.Model.{Change}
use Rattle.verdict.specs.FromNeeds.{is_among}

abbrev pub ahead : List Change → Change → ℕ
ahead T c = count_by (λ d. is_among d.name c.needs) T
