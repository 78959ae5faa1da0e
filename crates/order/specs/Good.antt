-- Which lists of puts can come about, the latest first: each puts a new line between two lines that stand in order by those behind it in the list.
-- Stands Q u v: u stands before v by the puts Q. On Q u: u is the start, the end, or the line of a put of Q. NewOn Q p: p can be put on Q. Good Q: each put of Q is new on the rest.
-- NoneNames x Q: no put of Q goes behind x or before it. dropped x Q: Q without the put of the line x.
-- Assumes nothing.
use Rattle.std.specs.Prelude.{◌≡◌, ℕ, ◌≤◌, true, not, List, [], ◌∷◌, filter, ◌==◌, ◌≢◌}
use Rattle.change.specs.Membership.{In}
use Rattle.order.specs.Order.{Put, Precedes, LineOf}
use Rattle.order.specs.Table.{bef}

abbrev pub Stands : List Put → ℕ → ℕ → Type 0
Stands Q = Precedes (λ p. In p Q)

abbrev pub On : List Put → ℕ → Type 0
On Q = LineOf (λ p. In p Q)

pub record NewOn (Q : List Put) (p : Put) : Type 0 where
  pub low : 2 ≤ p.line
  pub new : On Q p.line → ⊥
  pub between : bef Q p.after p.before ≡ true

abbrev pub Good : List Put → Type 0
Good [] = Unit {0}
Good (p ∷ Q) = NewOn Q p × Good Q

abbrev pub NoneNames : ℕ → List Put → Type 0
NoneNames x Q = (p : Put) → In p Q → (p.after ≢ x) × (p.before ≢ x)

abbrev pub dropped : ℕ → List Put → List Put
dropped x = filter (λ p. not (p.line == x))
