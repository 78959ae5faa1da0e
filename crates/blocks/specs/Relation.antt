-- What it is to show living lines block by block: a relation that a reader can judge, which says nothing of how the blocks are found.
-- Throughout, A says which lines live and R u v that u stands before v.
-- Loose A R u v: two living lines, neither before the other (elsewhere: incomparable). Tied A R u v: joined through loose pairs.
-- A block is a living line with all that are tied to it; a conflict, if they are two or more.
-- Free R ls u: no line of ls stands before u. Walk R ls: ls goes each time to the lowest free line of those still to come.
-- InSome u blocks: u is in one of the blocks. InOrder R blocks: the blocks stand before one another as wholes. Shows A R blocks: these blocks show the living lines.
-- Assumes nothing.
use Rattle.std.specs.Prelude.{◌≡◌, ℕ, ◌≤◌, ◌⊎◌, List, [], ◌∷◌}
use Rattle.change.specs.Membership.{In}

pub record Loose (A : ℕ → Type 0) (R : ℕ → ℕ → Type 0) (u v : ℕ) : Type 0 where
  pub lives : A u
  pub other_lives : A v
  pub differ : u ≡ v → ⊥
  pub not_before : R u v → ⊥
  pub not_behind : R v u → ⊥

pub data Tied (A : ℕ → Type 0) (R : ℕ → ℕ → Type 0) : ℕ → ℕ → Type 0 where
  same : {u : ℕ} → Tied A R u u
  by : {u w : ℕ} (v : ℕ) → Loose A R u v → Tied A R v w → Tied A R u w

abbrev pub Free : (ℕ → ℕ → Type 0) → List ℕ → ℕ → Type 0
Free R ls u = (v : ℕ) → In v ls → R v u → ⊥

-- the first line comes once, is free, and is the lowest that is; then the others
abbrev pub Walk : (ℕ → ℕ → Type 0) → List ℕ → Type 0
Walk R [] = Unit {0}
Walk R (u ∷ ls) = (In u ls → ⊥) × Free R (u ∷ ls) u × ((v : ℕ) → In v ls → Free R (u ∷ ls) v → u ≤ v) × Walk R ls

abbrev pub InSome : ℕ → List (List ℕ) → Type 0
InSome u [] = ⊥
InSome u (b ∷ bs) = In u b ⊎ InSome u bs

-- each block has a line, and each line of a block stands before every line of the later blocks
abbrev pub InOrder : (ℕ → ℕ → Type 0) → List (List ℕ) → Type 0
InOrder R [] = Unit {0}
InOrder R (b ∷ bs) = ((u : ℕ) × In u b) × ((u v : ℕ) → In u b → InSome v bs → R u v) × InOrder R bs

pub record Shows (A : ℕ → Type 0) (R : ℕ → ℕ → Type 0) (blocks : List (List ℕ)) : Type 0 where
  pub all : (u : ℕ) → A u → InSome u blocks
  pub only : (u : ℕ) → InSome u blocks → A u
  pub walked : (b : List ℕ) → In b blocks → Walk R b
  pub blockwise : (b : List ℕ) → In b blocks → (u v : ℕ) → In u b → In v b → Tied A R u v
  pub ordered : InOrder R blocks
