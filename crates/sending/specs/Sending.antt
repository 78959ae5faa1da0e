-- What is sent to a book that has the changes of some names, and in what order: each change after those that it needs, else by rising name.
-- lacking has S: the changes of S whose names are not among `has`. goes_first T c: c needs none of T.
-- walk n T: at most n changes of T, each time the one with the lowest name of those that need none still to come. It asks nothing of T: where every change needs another, the walk ends.
-- walk_all T: the walk through all of T. sent has S: the letter, that is the walk through all that are lacking. names_of S: the names of the changes S.
-- Assumes nothing.
use Rattle.std.specs.Prelude.{ℕ, zero, suc, Bool, not, List, [], ◌∷◌, map, length, Some, None, filter, Option}
use Rattle.std.specs.List.{list_all}
use Rattle.change.specs.Model.{Change}
use Rattle.order.specs.Theorems.{without}
use Rattle.verdict.specs.FromNeeds.{is_among}
use Rattle.history.specs.Taking.{lowest}

abbrev pub names_of : List Change → List ℕ
names_of S = map (λ c. c.name) S

abbrev pub lacking : List ℕ → List Change → List Change
lacking has S = filter (λ c. not (is_among c.name has)) S

abbrev pub goes_first : List Change → Change → Bool
goes_first T c = list_all (λ d. not (is_among d.name c.needs)) T

-- this change of T, and then the walk through the others
abbrev pub go_on : (List Change → List Change) → List Change → Option Change → List Change
go_on next T None = []
go_on next T (Some c) = c ∷ next (without c.name T)

abbrev pub walk : ℕ → List Change → List Change
walk zero T = []
walk (suc n) T = go_on (walk n) T (lowest (filter (goes_first T) T))

abbrev pub walk_all : List Change → List Change
walk_all T = walk (length T) T

abbrev pub sent : List ℕ → List Change → List Change
sent has S = walk_all (lacking has S)
