-- The changes that wait, by the bytes in which they came.
-- change_in bytes: the change that these bytes are. waits w: the changes that wait in w, the oldest first. Whole w: each item has the bytes and the name of its change, which is well formed.
-- Assumes nothing.
use Rattle.std.specs.Prelude.{◌≡◌, ℕ, true, List, [], map, Ok, Err, vec_items}
use Rattle.std.specs.List.{list_all}
use Rattle.change.specs.Bytes.{change_bytes}
use Rattle.change.specs.Model.{Change}
use Rattle.change.specs.Reading.{Read, change_of}
use Rattle.change.specs.WellFormed.{well_formed}
use Rattle.waiting.specs.declared.item.Item.{Item}
use Rattle.waiting.specs.declared.Waiting.{Waiting}

-- what bytes that are no change are taken for
abbrev pub blank : Change
blank = record { name = 0; sheet = 0; needs = []; adds = []; kills = [] }

abbrev pub change_read : Read Change → Change
change_read (Ok (c, rest)) = c
change_read (Err e) = blank

abbrev pub change_in : List ℕ → Change
change_in bytes = change_read (change_of bytes)

abbrev pub items_of : Waiting → List Item
items_of w = vec_items w.items

abbrev pub bytes_of : Item → List ℕ
bytes_of i = vec_items i.bytes

abbrev pub waits : Waiting → List Change
waits w = map (λ i. change_in (bytes_of i)) (items_of w)

pub record Whole (w : Waiting) : Type 0 where
  pub formed : list_all well_formed (waits w) ≡ true
  pub bytes : map bytes_of (items_of w) ≡ map change_bytes (waits w)
  pub names : map (λ i. i.name.0) (items_of w) ≡ map (λ c. c.name) (waits w)
