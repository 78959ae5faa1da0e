-- The room for changes that wait.
-- Assumes nothing.
use Rattle.std.proofs.Common.{◌≡◌, ℕ, ◌*◌, ◌<◌, ◌≤◌, true, List, [], ◌∷◌, reverse, length, is_some, Option, ◌∙◌, arith, length-append}
use Rattle.std.specs.List.{flat_map, list_all}
use Rattle.std.proofs.lemmas.Bool.Decides.{same_from_decides, Decides-like}
use Rattle.change.specs.Bytes.{change_bytes}
use Rattle.change.specs.Model.{Change}
use Rattle.change.specs.WellFormed.{well_formed}
use Rattle.change.proofs.Limits.{adds_most}
use Rattle.change.proofs.Sizes.{bytes_most}
use Rattle.change.proofs.Tests.{and_true}
use Rattle.order.specs.Names.{has_name}
use Rattle.order.proofs.OneName.{has_name_lem}
use Rattle.store.specs.declared.Store.{Store}
use Rattle.store.specs.First.{FirstAt}
use Rattle.store.specs.Kept.{kept, names}
use Rattle.store.specs.Room.{HasRoom, SameRoom}
use Rattle.store.proofs.Laid.{whole_is_laid}
use Rattle.store.proofs.Places.{length_kept, used_is}
use Rattle.shelf.proofs.Finding.{found_tells_has}
use Rattle.shelf.proofs.Reversed.{in_reverse, reverse_in}
use Rattle.history.specs.Book.{wait_limit}
use Rattle.plant_books.specs.Sane.{Roomy}

pub roomy_still : (w v : Store) → SameRoom w v → Roomy w → Roomy v
roomy_still w v same roomy = record { most = omega (arith, same.most, roomy.most); space = omega (arith, same.space, roomy.space) }

all_bytes_most : (cs : List Change) → list_all well_formed cs ≡ true → length (flat_map change_bytes cs) ≤ 8649 * length cs
all_bytes_most [] h = omega arith
all_bytes_most (c ∷ cs) h =
    let (one, others) = and_true (well_formed c) (list_all well_formed cs) h in
    omega (arith, length-append (change_bytes c) (flat_map change_bytes cs), bytes_most c one, adds_most c one, all_bytes_most cs others)

-- where fewer wait than may, there is room for one more
pub room_to_wait : (w : Store) → Roomy w → length (kept w) < wait_limit → (c : Change) → well_formed c ≡ true → HasRoom w (length (change_bytes c))
room_to_wait w roomy few c formed = record {
  entry = omega (arith, length_kept w, roomy.most);
  bytes = omega (arith, used_is w, bytes_most c formed, adds_most c formed, all_bytes_most (kept w) (whole_is_laid w).formed, roomy.space);
}

-- a name that is found is that of a change that waits
pub found_waits : (w : Store) (n : ℕ) (r : Option ℕ) → FirstAt (names w) n r → is_some r ≡ has_name (kept w) n
found_waits w n r first =
    found_tells_has (kept w) n r first
    ∙ same_from_decides _ _ (has_name_lem (reverse (kept w)) n) (Decides-like _ (λ (d, i, e). (d, reverse_in (kept w) d i, e)) (λ (d, i, e). (d, in_reverse (kept w) d i, e)) (has_name_lem (kept w) n))
