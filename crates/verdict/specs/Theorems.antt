-- What is proved of the tests. Each is a type; a term of that type in proofs/ is its proof, and a function of src/ names it in its contract.
-- Assumes nothing.
use Rattle.std.specs.Prelude.{◌≡◌, List, Decides}
use Rattle.change.specs.Membership.{SameMembers}
use Rattle.change.specs.Model.{Change}
use Rattle.order.specs.Fits.{Fits, Listed}
use Rattle.verdict.specs.Verdict.{is_known, needs_here, is_related, is_ordered, fits, listed}

-- The tests tell whether a change fits a listed set.
abbrev pub FitsDecided : Type 0
FitsDecided = (L : List Change) → Listed L → (c : Change) → Decides (fits L c) (Fits L c)

-- They tell whether a list of changes is listed.
abbrev pub ListedDecided : Type 0
ListedDecided = (L : List Change) → Decides (listed L) (Listed L)

-- Each depends on the set of changes alone, and not on how they came.
abbrev pub FitsAlike : Type 0
FitsAlike =
    (L M : List Change) → SameMembers L M → (c : Change) →
    (is_known L c ≡ is_known M c) × (needs_here L c ≡ needs_here M c) × (is_related L c ≡ is_related M c) × (Listed L → Listed M → is_ordered L c ≡ is_ordered M c)
