-- The order of lines that a set of changes makes.
-- Put: a line and the two lines that it was put between. puts c: those of a change, as its adds come. Brought S p: some change of S puts p.
-- Precedes P u v: u stands before v, where P says which puts there are. Order S: that at the puts of S. Line S u: u is the start, the end, or added by S.
-- AtOrBefore R u v: u is v, or stands before it by the order R.
-- Dead S u: some change of S strikes u out (a tombstone: it keeps its place). Alive S u: added by S and not dead.
-- Assumes nothing.
use Rattle.std.specs.Prelude.{◌≡◌, ℕ, suc, ◌≤◌, ◌⊎◌, List, [], ◌∷◌}
use Rattle.change.specs.Membership.{In}
use Rattle.change.specs.Model.{Add, Change, line_of}

pub record Put : Type 0 where
  pub line : ℕ
  pub after : ℕ
  pub before : ℕ

abbrev pub puts_from : ℕ → List Add → List Put
puts_from n [] = []
puts_from n (a ∷ adds) = record { line = n; after = a.after; before = a.before } ∷ puts_from (suc n) adds

abbrev pub puts : Change → List Put
puts c = puts_from (line_of c.name 0) c.adds

abbrev pub Brought : List Change → Put → Type 0
Brought S p = (c : Change) × In c S × In p (puts c)

-- The start stands before the end; each added line stands behind the first and before the second of the two that it was put between; and what follows from these, from one to the next.
pub data Precedes (P : Put → Type 0) : ℕ → ℕ → Type 0 where
  whole : Precedes P 0 1
  behind : (p : Put) → P p → Precedes P p.after p.line
  ahead : (p : Put) → P p → Precedes P p.line p.before
  through : {u w : ℕ} (v : ℕ) → Precedes P u v → Precedes P v w → Precedes P u w

abbrev pub Order : List Change → ℕ → ℕ → Type 0
Order S = Precedes (Brought S)

abbrev pub AtOrBefore : (ℕ → ℕ → Type 0) → ℕ → ℕ → Type 0
AtOrBefore R u v = (u ≡ v) ⊎ R u v

-- the start, the end, or the line of one of these puts
abbrev pub LineOf : (Put → Type 0) → ℕ → Type 0
LineOf P u = (u ≡ 0) ⊎ ((u ≡ 1) ⊎ ((p : Put) × P p × (p.line ≡ u)))

abbrev pub Line : List Change → ℕ → Type 0
Line S = LineOf (Brought S)

abbrev pub Dead : List Change → ℕ → Type 0
Dead S u = (c : Change) × In c S × In u c.kills

abbrev pub Alive : List Change → ℕ → Type 0
Alive S u = Line S u × (2 ≤ u) × (Dead S u → ⊥)
