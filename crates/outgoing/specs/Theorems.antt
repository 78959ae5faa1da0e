-- What is proved of the names that a book tells. Each is a type; a term of that type in proofs/ is its proof, and a function of src/ names it in its contract.
-- Assumes nothing.
use Rattle.std.specs.Prelude.{◌≡◌, ℕ, ◌≤◌, true, List, length, Result, MatchResult}
use Rattle.std.specs.List.{list_all}
use Rattle.change.specs.declared.refusal.Refusal.{Refusal}
use Rattle.change.specs.Membership.{SameMembers}
use Rattle.change.specs.Model.{Change}
use Rattle.change.specs.WellFormed.{well_formed}
use Rattle.letters.specs.declared.names.Names.{Names}
use Rattle.letters.specs.Names.{names_bytes, names_limit, are_names}
use Rattle.letters.specs.NamesView.{names_in, NamesRead}
use Rattle.sending.specs.Sending.{names_of}
use Rattle.outgoing.specs.NameList.{name_list}

-- The list has the names of the changes and no others; of changes within the limits it is one that can be told.
abbrev pub NameListTells : Type 0
NameListTells =
    (S : List Change) → SameMembers (name_list S) (names_of S) × (list_all well_formed S ≡ true → length S ≤ names_limit → are_names (name_list S) ≡ true)

-- There is one list of names with these members, so that it depends on the set of changes alone.
abbrev pub OneNameList : Type 0
OneNameList = (ns ms : List ℕ) → are_names ns ≡ true → are_names ms ≡ true → SameMembers ns ms → ns ≡ ms

-- Reading what names are written as never refuses, and gives these names.
abbrev pub NamesReadBack : Type 0
NamesReadBack =
    (ns : List ℕ) → are_names ns ≡ true → (r : Result Names Refusal) → NamesRead (names_bytes ns) r →
    MatchResult r (λ v. names_in v ≡ ns) (λ _. ⊥)
