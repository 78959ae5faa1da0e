-- What sending answers, and what it leaves in the lent slice.
-- Sent letter was now r: r is the length of the letter, whose bytes stand at the front, and what stood behind is as it was; or the slice is too short for the letter, or there is no memory, and nothing is altered.
-- Assumes nothing.
use Rattle.std.specs.Prelude.{◌≡◌, ℕ, ◌<◌, ◌≤◌, List, length, take, drop, Ok, Err, Result}
use Rattle.change.specs.Model.{Change}
use Rattle.letters.specs.Letter.{letter_bytes}
use Rattle.outgoing.specs.declared.trouble.SendTrouble.{SendTrouble}
use Rattle.outgoing.specs.declared.trouble.SendTrouble.TheVariants.{TooShort, Memory}

abbrev pub Sent : List Change → List ℕ → List ℕ → Result ℕ SendTrouble → Type 0
Sent letter was now (Ok n) = (n ≡ length (letter_bytes letter)) × (n ≤ length was) × (take n now ≡ letter_bytes letter) × (drop n now ≡ drop n was)
Sent letter was now (Err TooShort) = (length was < length (letter_bytes letter)) × (now ≡ was)
Sent letter was now (Err Memory) = now ≡ was
