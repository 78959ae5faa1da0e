-- The store of a sane shelf with room for every book has room for every change that passes no limit.
-- Assumes nothing.
use Rattle.std.proofs.Common.{◌≡◌, ◌+◌, ◌*◌, ◌≤◌, true, leb, List, [], ◌∷◌, reverse, length, refl, ap, ◌∙◌, arith, length-append}
use mathlib.Core.List.{reverse-cons}
use Rattle.std.specs.List.{flat_map, list_all}
use Rattle.std.proofs.lemmas.List.{length-reverse}
use Rattle.std.proofs.lemmas.List.Sums.{sum_by-cons, sum_by_push}
use Rattle.std.proofs.lemmas.Bool.{and_parts, leb-true}
use Rattle.change.specs.Bytes.{change_bytes}
use Rattle.change.specs.Model.{Change}
use Rattle.change.specs.WellFormed.{well_formed}
use Rattle.change.proofs.Sizes.{bytes_most}
use Rattle.store.specs.Kept.{kept}
use Rattle.store.specs.Room.{HasRoom}
use Rattle.store.proofs.Laid.{whole_is_laid}
use Rattle.store.proofs.Places.{length_kept, used_is}
use Rattle.history.specs.Book.{change_limit, line_limit, lines_of}
use Rattle.shelf.specs.declared.Shelf.{Shelf}
use Rattle.shelf.specs.Admitting.{room_for}
use Rattle.shelf.specs.Roomy.{Roomy}
use Rattle.shelf.specs.Sane.{changes}

all_bytes_most : (cs : List Change) → list_all well_formed cs ≡ true → length (flat_map change_bytes cs) ≤ 393 * length cs + 129 * lines_of cs
all_bytes_most [] h = omega arith
all_bytes_most (c ∷ cs) h =
    let (one, others) = and_parts (well_formed c) (list_all well_formed cs) h in
    omega (arith, length-append (change_bytes c) (flat_map change_bytes cs), bytes_most c one, all_bytes_most cs others, sum_by-cons (λ d. length d.adds) c cs)

lines_reversed : (cs : List Change) → lines_of (reverse cs) ≡ lines_of cs
lines_reversed [] = refl
lines_reversed (c ∷ cs) =
    ap lines_of (reverse-cons c cs) ∙ omega (arith, sum_by_push (λ d. length d.adds) (reverse cs) c, lines_reversed cs, sum_by-cons (λ d. length d.adds) c cs)

pub store_has_room : (s : Shelf) → Roomy s.store → (c : Change) → well_formed c ≡ true → room_for (changes s) c ≡ true → HasRoom s.store (length (change_bytes c))
store_has_room s roomy c formed room =
    let (few, few_lines) = and_parts (leb (length (c ∷ changes s)) change_limit) (leb (lines_of (c ∷ changes s)) line_limit) room in
    let same = length-reverse (kept s.store) in
    let all = all_bytes_most (kept s.store) (whole_is_laid s.store).formed in
    record {
      entry = omega (arith, length_kept s.store, leb-true _ _ few, roomy.most);
      bytes =
          omega (arith, used_is s.store, bytes_most c formed, leb-true _ _ few, leb-true _ _ few_lines, sum_by-cons (λ d. length d.adds) c (changes s), lines_reversed (kept s.store), roomy.space);
    }
