-- What the lines of a book are, by the fields of `Lines`.
-- numbers_of l: the numbers of its slots. Agrees R ns Q: the slots in use are the lines of the puts Q, one to one, and R orders the slots as Q does the lines.
-- Keeps l Q: l holds exactly the lines of Q, in their order.
-- Prepared l first slots Q: it would, were these slots given to the lines from `first` on. Unmoved l l': each line of l has its slot in l', in the same order.
-- MayAdd l first count Q: l keeps the good list of puts Q, and so many lines from `first` on are new to it.
-- Assumes nothing.
use Rattle.std.specs.Prelude.{◌≡◌, ℕ, Bool, List, vec_items, slice_index}
use Rattle.order.specs.Order.{Put}
use Rattle.order.specs.Table.{bef}
use Rattle.order.specs.Good.{On, Good}
use Rattle.table.specs.Held as table
use Rattle.lines.specs.declared.Lines.{Lines}
use Rattle.lines.specs.Numbers.{Used, marked}
use Rattle.lines.specs.Puts.{Fresh}

abbrev pub numbers_of : Lines → List ℕ
numbers_of l = vec_items l.numbers

pub record Agrees (R : ℕ → ℕ → Bool) (ns : List ℕ) (Q : List Put) : Type 0 where
  pub lines : (i : ℕ) → Used ns i → On Q (slice_index ns i)
  pub slots : (u : ℕ) → On Q u → (i : ℕ) × Used ns i × (slice_index ns i ≡ u)
  pub once : (i j : ℕ) → Used ns i → Used ns j → slice_index ns i ≡ slice_index ns j → i ≡ j
  pub order : (i j : ℕ) → Used ns i → Used ns j → R i j ≡ bef Q (slice_index ns i) (slice_index ns j)

abbrev pub Keeps : Lines → List Put → Type 0
Keeps l Q = Agrees (table.held l.table) (numbers_of l) Q

abbrev pub Prepared : Lines → ℕ → List ℕ → List Put → Type 0
Prepared l first slots Q = Agrees (table.held l.table) (marked (numbers_of l) first slots) Q

abbrev pub MayAdd : Lines → ℕ → ℕ → List Put → Type 0
MayAdd l first count Q = Keeps l Q × Good Q × Fresh Q first count

pub record Unmoved (l l' : Lines) : Type 0 where
  pub numbers : numbers_of l' ≡ numbers_of l
  pub order : (i j : ℕ) → Used (numbers_of l) i → Used (numbers_of l) j → table.held l'.table i j ≡ table.held l.table i j
