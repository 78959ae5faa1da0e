-- What the lines say that a program reads.
-- Meaning: a command, apart from how it lies in memory. Says: a command's word and its arguments, a space before each; numbers are decimal.
-- take and send: any text stands behind them, of which Hex says the bytes.
-- Assumes nothing.
use Rattle.std.specs.Prelude.{◌≡◌, ℕ, ◌^◌, ◌<◌, List, ◌++◌, codes, decimal, Option, MatchOption}
use Rattle.console.specs.Words.{Split}
use Rattle.console.specs.declared.command.Command.{Command}
use Rattle.console.specs.declared.command.Command.TheVariants.{Sheet, Add, Kill, Make, Back, Take, Have, Send, Show, Lines}

pub data Meaning : Type 0 where
  sheet : ℕ → Meaning
  add : ℕ → ℕ → List ℕ → Meaning
  kill : ℕ → Meaning
  make : Meaning
  back : ℕ → Meaning
  take : List ℕ → Meaning
  have : Meaning
  send : List ℕ → Meaning
  show : Meaning
  lines : Meaning

abbrev pub meaning_of : Command → Meaning
meaning_of (Sheet s) = sheet s.0
meaning_of (Add a b text) = add a.0 b.0 text.now
meaning_of (Kill l) = kill l.0
meaning_of Make = make
meaning_of (Back n) = back n.0
meaning_of (Take digits) = take digits.now
meaning_of Have = have
meaning_of (Send digits) = send digits.now
meaning_of Show = show
meaning_of Lines = lines

abbrev pub Says : List ℕ → Meaning → Type 0
Says line (sheet n) = (n < 256) × (line ≡ codes "sheet " ++ decimal n)
Says line (add a b text) = (a < 2 ^ 32) × (b < 2 ^ 32) × ((rest : List ℕ) × (line ≡ codes "add " ++ (decimal a ++ (codes " " ++ rest))) × Split rest (decimal b) text)
Says line (kill n) = (n < 2 ^ 32) × (line ≡ codes "kill " ++ decimal n)
Says line make = line ≡ codes "make"
Says line (back n) = (n < 2 ^ 32) × (line ≡ codes "back " ++ decimal n)
Says line (take digits) = line ≡ codes "take " ++ digits
Says line have = line ≡ codes "have"
Says line (send digits) = line ≡ codes "send " ++ digits
Says line show = line ≡ codes "show"
Says line lines = line ≡ codes "lines"

-- The command that the line says; none, where it says none.
abbrev pub Parsed : List ℕ → Option Command → Type 0
Parsed line r = MatchOption r ((m : Meaning) → Says line m → ⊥) (λ c. Says line (meaning_of c))

-- No line says two commands.
abbrev pub OneMeaning : Type 0
OneMeaning = (line : List ℕ) (m n : Meaning) → Says line m → Says line n → m ≡ n
