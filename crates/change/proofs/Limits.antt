-- What the limits of a change give as facts on numbers.
-- Assumes nothing.
use Rattle.std.proofs.Common.{◌≡◌, ◌≤◌, true, length, arith}
use Rattle.std.proofs.lemmas.Bool.Decides.{nat_tests}
use Rattle.std.specs.List.{list_all}
use Rattle.change.specs.Model.{Change}
use Rattle.change.specs.WellFormed.{is_add, well_formed}

pub name_least : (c : Change) → well_formed c ≡ true → 16 ≤ c.name
name_least c h = grind (arith, nat_tests)

pub adds_most : (c : Change) → well_formed c ≡ true → length c.adds ≤ 64
adds_most c h = grind (arith, nat_tests)

pub needs_most : (c : Change) → well_formed c ≡ true → length c.needs ≤ 32
needs_most c h = grind (arith, nat_tests)

pub kills_most : (c : Change) → well_formed c ≡ true → length c.kills ≤ 64
kills_most c h = grind (arith, nat_tests)

pub adds_formed : (c : Change) → well_formed c ≡ true → list_all is_add c.adds ≡ true
adds_formed c h = grind (arith, nat_tests)
