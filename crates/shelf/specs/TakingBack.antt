-- Which change can be taken back.
-- needs_at L n place: the change at this place of L, if there is one, needs the one of the name n. none_needs L n: no change of L does. is_free_in L n: L has it, and none of L needs it.
-- Assumes nothing.
use Rattle.std.specs.Prelude.{ℕ, Bool, false, not, ◌&&◌, List, Some, None, Option}
use Rattle.std.specs.List.{slice_get, list_all}
use Rattle.change.specs.Model.{Change}
use Rattle.order.specs.Names.{has_name}
use Rattle.verdict.specs.FromNeeds.{is_among}

abbrev pub needs_some : ℕ → Option Change → Bool
needs_some n None = false
needs_some n (Some d) = is_among n d.needs

abbrev pub needs_at : List Change → ℕ → ℕ → Bool
needs_at L n place = needs_some n (slice_get L place)

abbrev pub none_needs : List Change → ℕ → Bool
none_needs L n = list_all (λ d. not (is_among n d.needs)) L

abbrev pub is_free_in : List Change → ℕ → Bool
is_free_in L n = has_name L n && none_needs L n
