-- What the lines of a script say.
-- Move: a plant is told a command, or changes are passed on from one plant to another. move_of: what a line comes to that was read. Moves line m: the line says m; a plant's number is decimal, and a space stands before what follows it.
-- Read line r: r is what the line says; none, where it says nothing.
-- Assumes nothing.
use Rattle.std.specs.Prelude.{◌≡◌, ℕ, ◌<◌, List, ◌++◌, codes, decimal, Option, MatchOption}
use Rattle.console.specs.Meaning.{Meaning, meaning_of, Says}
use Rattle.rehearse.specs.declared.script.ScriptLine.{ScriptLine}
use Rattle.rehearse.specs.declared.script.ScriptLine.TheVariants.{Tell, Pass}

pub data Move : Type 0 where
  tell : ℕ → Meaning → Move
  pass : ℕ → ℕ → Move

abbrev pub move_of : ScriptLine → Move
move_of (Tell p c) = tell p.number (meaning_of c)
move_of (Pass p q) = pass p.number q.number

abbrev pub Moves : List ℕ → Move → Type 0
Moves line (tell n m) = (n < 16) × ((rest : List ℕ) × (line ≡ decimal n ++ (codes " " ++ rest)) × Says rest m)
Moves line (pass n m) = (n < 16) × (m < 16) × (line ≡ codes "pass " ++ (decimal n ++ (codes " " ++ decimal m)))

abbrev pub Read : List ℕ → Option ScriptLine → Type 0
Read line r = MatchOption r ((m : Move) → Moves line m → ⊥) (λ s. Moves line (move_of s))
