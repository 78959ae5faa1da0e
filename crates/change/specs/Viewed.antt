-- The change that a view shows.
-- text_at c i: the text of the change's add at place i, or none where there is no such add.
-- Assumes nothing.
use Rattle.std.specs.Prelude.{◌≡◌, ℕ, true, List, Ok, Err, Option, Result, option_map, slice_get, ◌≢◌}
use Rattle.change.specs.declared.refusal.Refusal.{Refusal}
use Rattle.change.specs.declared.refusal.Refusal.TheVariants.{Malformed}
use Rattle.change.specs.declared.view.ChangeView.{ChangeView}
use Rattle.change.specs.Bytes.{change_bytes}
use Rattle.change.specs.Model.{Change}
use Rattle.change.specs.View.{change_from}
use Rattle.change.specs.WellFormed.{well_formed}

abbrev pub viewed : ChangeView → Change
viewed v = change_from v.name.0 v.sheet.0 v.needs v.adds v.kills

-- what reading bytes as one change, and nothing behind it, answers: a change exactly where they are its bytes
abbrev pub WholeRead : List ℕ → Result ChangeView Refusal → Type 0
WholeRead bytes (Ok v) = bytes ≡ change_bytes (viewed v)
WholeRead bytes (Err e) = (e ≡ Malformed) × ((c : Change) → well_formed c ≡ true → bytes ≢ change_bytes c)

abbrev pub text_at : Change → ℕ → Option (List ℕ)
text_at c i = option_map (λ a. a.text) (slice_get c.adds i)
