-- Room in a store: in its area, and in its list of entries, so that taking a change in allocates nothing.
-- most s: the changes that it can keep. space s: the bytes of its area. HasRoom s n: it has room for one change more, of n bytes. SameRoom s t: t can keep as many changes and bytes as s.
-- Assumes nothing.
use Rattle.std.specs.Prelude.{◌≡◌, ℕ, ◌+◌, ◌<◌, ◌≤◌, length, vec_len, vec_capacity}
use Rattle.store.specs.declared.Store.{Store}

abbrev pub most : Store → ℕ
most s = vec_capacity s.entries

abbrev pub space : Store → ℕ
space s = length s.area.now

pub record HasRoom (s : Store) (n : ℕ) : Type 0 where
  pub entry : vec_len s.entries < most s
  pub bytes : s.used + n ≤ space s

pub record SameRoom (s t : Store) : Type 0 where
  pub most : most t ≡ most s
  pub space : space t ≡ space s
