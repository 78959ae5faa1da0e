-- Lines that lead to a conflict, by their slots. Throughout, R says which slot stands before which, and `above` are the lines that are above.
-- at_or_before R i j: slot i is j, or stands before it. leads_from R above m slot: the slot is at or behind all that are above, and before the slot m.
-- NoneLeads R above m ls: neither the first slot, that of the start, nor that of a line of ls does. SomeLeads R above m ls u: u is the start, or a line of ls, and its slot does.
-- Assumes nothing.
use Rattle.std.specs.Prelude.{◌≡◌, ℕ, Bool, true, false, ◌&&◌, ◌||◌, ◌⊎◌, List, ◌==◌}
use Rattle.std.specs.List.{list_all}
use Rattle.change.specs.Membership.{In}
use Rattle.sheet.specs.declared.line.LineAt.{LineAt}

abbrev pub at_or_before : (ℕ → ℕ → Bool) → ℕ → ℕ → Bool
at_or_before R i j = i == j || R i j

abbrev pub leads_from : (ℕ → ℕ → Bool) → List LineAt → ℕ → ℕ → Bool
leads_from R above m slot = R slot m && list_all (λ a. at_or_before R a.slot slot) above

abbrev pub NoneLeads : (ℕ → ℕ → Bool) → List LineAt → ℕ → List LineAt → Type 0
NoneLeads R above m ls = (leads_from R above m 0 ≡ false) × ((a : LineAt) → In a ls → leads_from R above m a.slot ≡ false)

abbrev pub SomeLeads : (ℕ → ℕ → Bool) → List LineAt → ℕ → List LineAt → ℕ → Type 0
SomeLeads R above m ls u =
    ((u ≡ 0) × (leads_from R above m 0 ≡ true)) ⊎ ((a : LineAt) × In a ls × (a.number.0 ≡ u) × (leads_from R above m a.slot ≡ true))
