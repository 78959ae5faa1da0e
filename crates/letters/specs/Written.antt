-- Bytes written into a lent slice behind what stands there.
-- Written at bytes was now r: r is the place behind them, what stood before `at` and behind that place is as it was, and they stand between; or there is no room for them, and nothing is altered.
-- Begun count was now r: the head of a letter of so many changes is written at the front; or they are too many, and nothing is altered.
-- Assumes nothing.
use Rattle.std.specs.Prelude.{◌≡◌, ℕ, ◌+◌, ◌<◌, ◌≤◌, cond, List, ◌++◌, length, take, drop, Some, None, Option, nat_le}
use Rattle.letters.specs.Letter.{letter_kind, letter_limit}
use Rattle.letters.specs.Message.{head_bytes}

abbrev pub Written : ℕ → List ℕ → List ℕ → List ℕ → Option ℕ → Type 0
Written at bytes was now (Some n) = (n ≡ at + length bytes) × (n ≤ length was) × (take n now ≡ take at was ++ bytes) × (drop n now ≡ drop n was)
Written at bytes was now None = (length was < at + length bytes) × (now ≡ was)

abbrev pub Begun : ℕ → List ℕ → List ℕ → Option ℕ → Type 0
Begun count was now r = cond (nat_le count letter_limit) (Written 0 (head_bytes letter_kind count) was now r) ((r ≡ None) × (now ≡ was))
