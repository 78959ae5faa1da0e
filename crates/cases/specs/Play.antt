-- What a book answers as changes come and are taken back, in the words of the programs: a line for each change that comes in, waits, is turned away or goes.
-- Step: a change comes, or one is to be taken back. played B steps: the answers.
-- Assumes nothing.
use Rattle.std.specs.Prelude.{ℕ, cond, List, [], ◌∷◌, ◌++◌, codes, decimal}
use Rattle.std.specs.List.{flat_map}
use Rattle.change.specs.declared.refusal.Refusal.TheVariants.{Needed}
use Rattle.change.specs.Model.{Change}
use Rattle.change.specs.Refusals.{number_of}
use Rattle.history.specs.declared.Outcome.{Outcome}
use Rattle.history.specs.declared.Outcome.TheVariants.{Taken, Waits, Refused}
use Rattle.history.specs.declared.Event.{Event}
use Rattle.history.specs.Book.{Book}
use Rattle.history.specs.Taking.{take, is_free, take_back}

pub data Step : Type 0 where
  comes : Change → Step
  goes : ℕ → Step

abbrev pub outcome_word : Outcome → List ℕ
outcome_word Taken = codes "taken "
outcome_word Waits = codes "waits "
outcome_word (Refused r) = codes "refused " ++ (decimal (number_of r) ++ codes " ")

abbrev pub answered : Outcome → ℕ → List ℕ
answered o name = outcome_word o ++ (decimal name ++ codes "\n")

abbrev pub answer : Event → List ℕ
answer e = answered e.outcome e.name.0

abbrev pub played : Book → List Step → List ℕ
played B [] = []
played B (comes c ∷ steps) = flat_map answer (take B c).0 ++ played (take B c).1 steps
played B (goes name ∷ steps) =
    cond (is_free B name) (codes "back " ++ (decimal name ++ codes "\n")) (answered (Refused Needed) name) ++ played (take_back B name) steps
