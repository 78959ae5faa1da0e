-- What a `Few` holds.
-- Assumes nothing.
use Rattle.std.specs.Prelude.{ℕ, List, take}
use Rattle.change.specs.declared.few.Few.{Few}

abbrev pub listed : {T : Type 0} {N : ℕ} → Few T N → List T
listed f = take f.count f.items
