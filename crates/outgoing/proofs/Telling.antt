-- The names that a book tells: which they are, that there is one list of them, and that they are read back.
-- Assumes nothing.
use Rattle.std.proofs.Common.{◌≡◌, ◌≤◌, true, leb, List, length, Ok, Err, sym, refl, ap, ◌∙◌, arith}
use Rattle.std.proofs.lemmas.List.{length-map}
use Rattle.std.proofs.lemmas.Bool.{le-leb, leb-true}
use Rattle.std.specs.List.{list_all}
use Rattle.change.specs.Membership.{In}
use Rattle.change.specs.Model.{Change}
use Rattle.change.specs.WellFormed.{well_formed, rising, lowest_name, highest_name}
use Rattle.change.proofs.Every.{every_at}
use Rattle.change.proofs.Tests.{and_true, both_true}
use Rattle.order.proofs.Members.{in_mapped, in_at}
use Rattle.making.proofs.Sorted.{sorted_members, sorted_rises}
use Rattle.letters.specs.Names.{names_limit, are_names}
use Rattle.letters.specs.NamesView.{names_in}
use Rattle.letters.proofs.Codec.{names_have_one_string}
use Rattle.sending.specs.Sending.{names_of}
use Rattle.outgoing.specs.NameList.{name_list}
use Rattle.outgoing.specs.Places.{no_change}
use Rattle.outgoing.specs.Theorems.{NameListTells, OneNameList, NamesReadBack}
use Rattle.making.proofs.Rising.{length_sorted, rising_one}

name_within : (c : Change) → well_formed c ≡ true → (lowest_name ≤ c.name) × (c.name ≤ highest_name)
name_within c well = let p = and_true (leb lowest_name c.name) _ (and_true _ _ well).0 in (leb-true _ _ p.0, leb-true _ _ p.1)

pub list_rises : (S : List Change) → ((c : Change) → In c S → well_formed c ≡ true) → rising lowest_name highest_name (name_list S) ≡ true
list_rises S well = sorted_rises highest_name lowest_name (names_of S) (λ n i. let (c, j, e) = in_mapped (λ d. d.name) n S i in rw e (name_within c (well c j)))

pub every_member : (S : List Change) → list_all well_formed S ≡ true → (c : Change) → In c S → well_formed c ≡ true
every_member S all c i = let (k, less, e) = in_at no_change c S i in ap well_formed (sym e) ∙ every_at well_formed S k no_change all less

pub list_told : (S : List Change) → ((c : Change) → In c S → well_formed c ≡ true) → length S ≤ names_limit → are_names (name_list S) ≡ true
list_told S well few = both_true (le-leb _ names_limit (omega (arith, length_sorted (names_of S), length-map S (λ c. c.name)))) (list_rises S well)

pub name_list_tells : NameListTells
name_list_tells S = (sorted_members (names_of S), λ all few. list_told S (every_member S all) few)

pub one_name_list : OneNameList
one_name_list ns ms named named' same = rising_one highest_name lowest_name lowest_name ns ms (and_true _ _ named).1 (and_true _ _ named').1 same

pub names_read_back : NamesReadBack
names_read_back ns named (Ok v) own = names_have_one_string (names_in v) ns v.named named (sym own)
names_read_back ns named (Err e) (_, none) = none ns named refl
