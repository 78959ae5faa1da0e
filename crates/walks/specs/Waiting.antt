-- The items still to come, each with how many of those still to come must precede it.
-- among before ts t: t with its count among ts. waiting_of before ts: the items ts, each so counted.
-- lowered before s w: w when s is no longer to come. CanFall before s ws: no count of ws that then falls is 0.
-- NoneFree ws: each of ws has one before it. LowestFree rank ws k: of those of ws that have none before them, the one at place k has the lowest number.
-- Assumes nothing.
use Rattle.std.specs.Prelude.{◌≡◌, ℕ, ◌-◌, ◌<◌, ◌≤◌, ◌≢◌, Bool, true, cond, List, map, length, slice_index_or}
use Rattle.std.specs.List.{All}
use Rattle.walks.specs.declared.waiting.Waiting.{Waiting}
use Rattle.walks.specs.Walk.{ahead_of}

abbrev pub among : {T : Type 0} → (T → T → Bool) → List T → T → Waiting T
among before ts t = record { item = t; ahead = ahead_of before ts t }

abbrev pub waiting_of : {T : Type 0} → (T → T → Bool) → List T → List (Waiting T)
waiting_of before ts = map (among before ts) ts

abbrev pub lowered : {T : Type 0} → (T → T → Bool) → T → Waiting T → Waiting T
lowered before s w = record { item = w.item; ahead = cond (before s w.item) (w.ahead - 1) w.ahead }

abbrev pub CanFall : {T : Type 0} → (T → T → Bool) → T → List (Waiting T) → Type 0
CanFall before s ws = All (λ w. before s w.item ≡ true → 0 < w.ahead) ws

abbrev pub NoneFree : {T : Type 0} → List (Waiting T) → Type 0
NoneFree ws = All (λ w. w.ahead ≢ 0) ws

pub record LowestFree {T : Type 0} (rank : T → ℕ) (ws : List (Waiting T)) (k : ℕ) : Type 0 where
  pub within : k < length ws
  pub free : (d : Waiting T) → (slice_index_or ws k d).ahead ≡ 0
  pub lowest : (d : Waiting T) → All (λ w. w.ahead ≡ 0 → rank (slice_index_or ws k d).item ≤ rank w.item) ws
