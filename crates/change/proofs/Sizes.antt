-- How many bytes a change has: nine, four for each need and kill, and those of its adds.
-- Assumes nothing.
use Rattle.std.proofs.Common.{◌≡◌, ℕ, ◌+◌, ◌*◌, ◌≤◌, true, List, [], ◌∷◌, length, arith, length-append}
use Rattle.std.specs.List.{flat_map, list_all}
use Rattle.std.proofs.lemmas.Bool.Decides.{nat_tests}
use Rattle.change.specs.Bytes.{number_bytes, add_bytes, change_bytes}
use Rattle.change.specs.Model.{Add, Change}
use Rattle.change.specs.WellFormed.{is_add, well_formed}
use Rattle.change.proofs.Limits.{adds_formed, needs_most, kills_most}
use Rattle.change.proofs.Tests.{and_true}

length_numbers : (ns : List ℕ) → length (flat_map number_bytes ns) ≡ 4 * length ns
length_numbers [] = omega arith
length_numbers (n ∷ ns) = omega (arith, length-append (number_bytes n) (flat_map number_bytes ns), length_numbers ns)

-- two lines, the length of the text, and the text
pub add_size : (a : Add) → length (add_bytes a) ≡ 9 + length a.text
add_size a = omega arith

add_most : (a : Add) → is_add a ≡ true → length (add_bytes a) ≤ 129
add_most a h =
    let text : length a.text ≤ 120 = grind (arith, nat_tests) in
    omega (arith, add_size a)

adds_long : (adds : List Add) → list_all is_add adds ≡ true → length (flat_map add_bytes adds) ≤ 129 * length adds
adds_long [] h = omega arith
adds_long (a ∷ adds) h =
    let (one, others) = and_true (is_add a) (list_all is_add adds) h in
    omega (arith, length-append (add_bytes a) (flat_map add_bytes adds), add_most a one, adds_long adds others)

pub length_change : (c : Change) → length (change_bytes c) ≡ 9 + 4 * (length c.needs + length c.kills) + length (flat_map add_bytes c.adds)
length_change c = simp length-append (omega (arith, length_numbers c.needs, length_numbers c.kills))

pub bytes_most : (c : Change) → well_formed c ≡ true → length (change_bytes c) ≤ 393 + 129 * length c.adds
bytes_most c h = omega (arith, length_change c, adds_long c.adds (adds_formed c h), needs_most c h, kills_most c h)
