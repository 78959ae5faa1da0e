-- What taking in a change answers, and what is kept then.
-- Pushed s t c r: of the store s, which then is t, and the change c, with the answer r.
-- Assumes nothing.
use Rattle.std.specs.Prelude.{◌≡◌, ◌+◌, ◌<◌, ◌≤◌, [], ◌∷◌, ◌++◌, length, Ok, Err, Result}
use Rattle.change.specs.Bytes.{change_bytes}
use Rattle.change.specs.Model.{Change}
use Rattle.store.specs.declared.Store.{Store}
use Rattle.store.specs.declared.no_room.NoRoom.{NoRoom}
use Rattle.store.specs.declared.no_room.NoRoom.TheVariants.{Area, Memory}
use Rattle.store.specs.Kept.{kept}

abbrev pub Pushed : Store → Store → Change → Result (Unit {0}) NoRoom → Type 0
Pushed s t c (Ok done) = kept t ≡ kept s ++ c ∷ []
Pushed s t c (Err Area) = (kept t ≡ kept s) × (length s.area.now < s.used + length (change_bytes c))
Pushed s t c (Err Memory) = (kept t ≡ kept s) × (s.used + length (change_bytes c) ≤ length s.area.now)
