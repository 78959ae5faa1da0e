-- One add of several, put into a free slot that is not marked yet.
-- NextPut l l' first slots from p r: what becomes of the put p, whose line is the next behind those that the slots are for. None says that it stands out of order; a slot, that it was put there.
-- Assumes nothing.
use Rattle.std.specs.Prelude.{◌≡◌, ℕ, ◌+◌, ◌<◌, ◌≤◌, true, false, List, [], ◌∷◌, ◌++◌, length, drop, Some, None, Option, slice_index_or}
use Rattle.order.specs.Order.{Put}
use Rattle.order.specs.Table.{bef}
use Rattle.order.specs.Good.{On, Good}
use Rattle.lines.specs.declared.Lines.{Lines}
use Rattle.lines.specs.Numbers.{no_line, free_in}
use Rattle.lines.specs.Lines.{numbers_of, Prepared}

pub record PutInto (l l' : Lines) (first : ℕ) (slots : List ℕ) (from : ℕ) (p : Put) (x : ℕ) : Type 0 where
  pub behind : from ≤ x
  pub within : x < length (numbers_of l)
  pub free : slice_index_or (numbers_of l) x 0 ≡ no_line
  pub rest : free_in (drop from (numbers_of l)) ≡ 1 + free_in (drop (x + 1) (numbers_of l))
  pub order : (Q : List Put) → Prepared l first slots Q → Good Q → bef Q p.after p.before ≡ true
  pub prepared : (Q : List Put) → Prepared l first slots Q → (On Q p.line → ⊥) → Prepared l' first (slots ++ x ∷ []) (p ∷ Q)

abbrev pub NextPut : Lines → Lines → ℕ → List ℕ → ℕ → Put → Option ℕ → Type 0
NextPut l l' first slots from p None = (Q : List Put) → Prepared l first slots Q → Good Q → bef Q p.after p.before ≡ false
NextPut l l' first slots from p (Some x) = PutInto l l' first slots from p x
