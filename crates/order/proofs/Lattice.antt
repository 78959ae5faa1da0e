-- That the lines of a sound set have joins and meets: meets are the joins of the order turned round.
-- Turned R: the order R from the end to the start. between a p b: the line of p put between a and b. turned p: p as the order turned round has it.
-- Assumes nothing.
use Rattle.std.proofs.Common.{◌≡◌, ℕ, ◌⊎◌, List, [], ◌∷◌, sym, subst, inl, inr}
use mathlib.Core.Logic.{⊎_swap}
use Rattle.order.specs.Order.{Put, whole, AtOrBefore, Order}
use Rattle.order.specs.Table.{bef}
use Rattle.order.specs.Good.{Stands, On, NewOn, Good}
use Rattle.order.specs.Theorems.{Joins, Meets}
use Rattle.order.proofs.Deciding.{choice}
use Rattle.order.proofs.Precedes.{Sub}
use Rattle.order.proofs.Grown.{Grown, from, into, old, Takes}
use Rattle.order.proofs.Steps.{grown_stands}
use Rattle.order.proofs.Stands.{on_new, on_old, on_cases, laws, takes, stands_grown}
use Rattle.order.proofs.Table.{bef_decides}
use Rattle.order.proofs.SoundPuts.{sound_puts, order_stands, stands_order, line_on, on_line}
use Rattle.order.proofs.Joins.{HasJoins, OrNew, joins_like, joins_two, joins_grown}

abbrev Turned : (ℕ → ℕ → Type 0) → ℕ → ℕ → Type 0
Turned R u v = R v u

abbrev between : ℕ → Put → ℕ → Put
between a p b = record { line = p.line; after = a; before = b }

abbrev turned : Put → Put
turned p = between p.before p p.after

at_turned : (R : ℕ → ℕ → Type 0) (u v : ℕ) → AtOrBefore (Turned R) u v → AtOrBefore R v u
at_turned R u v (inl e) = inl (sym e)
at_turned R u v (inr h) = inr h

takes_turned : {R : ℕ → ℕ → Type 0} {p : Put} → Takes R p → Takes (Turned R) (turned p)
takes_turned t = record {
  transitive = λ u v w h k. t.transitive w v u k h;
  irreflexive = t.irreflexive;
  between = t.between;
  absent = λ u v h. ((t.absent v u h).1, (t.absent v u h).0);
}

grown_turned : (R : ℕ → ℕ → Type 0) (p : Put) → Sub (Grown (Turned R) (turned p)) (Turned (Grown R p))
grown_turned R p u v (from e h) = into e (at_turned R _ v h)
grown_turned R p u v (into e h) = from e (at_turned R u _ h)
grown_turned R p u v (old h) = old h

stands_or_not : (Q : List Put) → Good Q → (u v : ℕ) → Dec (Stands Q u v)
stands_or_not Q g u v = choice (bef Q u v) (bef_decides Q g u v)

-- the order R grows to T by the line of p, put between a and b: the lines of p, or these turned round
joins_put : (p : Put) (Q : List Put) → NewOn Q p → (R T : ℕ → ℕ → Type 0) (a b : ℕ) → Takes R (between a p b) → On Q a → On Q b → ((u v : ℕ) → Dec (R u v)) →
    Sub (Grown R (between a p b)) T → Sub T (Grown R (between a p b)) → HasJoins (On Q) R → HasJoins (On (p ∷ Q)) T
joins_put p Q n R T a b t oa ob decide more less joins = joins_like to (on_cases p Q) more less (joins_grown t (λ u o e. n.new (subst (On Q) e o)) oa ob decide joins)
  where
    to : (u : ℕ) → OrNew (On Q) (between a p b) u → On (p ∷ Q) u
    to u (inl e) = rw e (on_new p Q)
    to u (inr o) = on_old p Q u o

lattice : (Q : List Put) → Good Q → HasJoins (On Q) (Stands Q) × HasJoins (On Q) (Turned (Stands Q))
lattice [] g = (joins_two (On []) (Stands []) 0 1 whole two, joins_two (On []) (Turned (Stands [])) 1 0 whole (λ u h. ⊎_swap (two u h)))
  where
    two : (u : ℕ) → On [] u → (u ≡ 0) ⊎ (u ≡ 1)
    two u (inl e) = inl e
    two u (inr (inl e)) = inr e
    two u (inr (inr h)) = absurd h.1
lattice (p ∷ Q) (n, g) =
    let l = laws Q g in
    let t = takes p Q n l in
    let (oa, ob) = l.ends _ _ t.between in
    let decide = stands_or_not Q g in
    let (joins, meets) = lattice Q g in (
      joins_put p Q n (Stands Q) (Stands (p ∷ Q)) p.after p.before t oa ob decide (grown_stands p Q) (stands_grown p Q n l) joins,
      joins_put p Q n (Turned (Stands Q)) (Turned (Stands (p ∷ Q))) p.before p.after (takes_turned t) ob oa (λ u v. decide v u)
          (λ u v h. grown_stands p Q v u (grown_turned (Stands Q) p u v h)) (λ u v h. grown_turned (Turned (Stands Q)) (turned p) v u (stands_grown p Q n l v u h)) meets,
    )

pub joins : Joins
joins S s = let q = sound_puts S s in joins_like (on_line q) (line_on q) (stands_order q) (order_stands q) (lattice q.list q.good).0

pub meets : Meets
meets S s u v hu hv =
    let q = sound_puts S s in
    let turned_joins = joins_like {R = Turned (Stands q.list)} (on_line q) (line_on q) (λ x y. stands_order q y x) (λ x y. order_stands q y x) (lattice q.list q.good).1 in
    let (m, o, l, r, greatest) = turned_joins u v hu hv in
    let turn = at_turned (Order S) in
    let back = at_turned (Turned (Order S)) in
    (m, o, turn u m l, turn v m r, λ w h x y. turn m w (greatest w h (back w u x) (back w v y)))
