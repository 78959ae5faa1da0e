-- The theorems on the order of one sound set, from those on good lists of puts.
-- Assumes nothing.
use Rattle.std.proofs.Common.{◌≡◌, ℕ, inl, inr, arith}
use Rattle.std.proofs.lemmas.Bool.Decides.{Decides-like, same_from_decides}
use Rattle.order.specs.Order.{Order, AtOrBefore}
use Rattle.order.specs.Table.{placed}
use Rattle.order.specs.Good.{Stands}
use Rattle.order.specs.Theorems.{Decided, NoRing, Inside, SetAlone}
use Rattle.order.proofs.Precedes.{precedes_more, order_alike}
use Rattle.order.proofs.Stands.{laws, inside}
use Rattle.order.proofs.Table.{bef_decides}
use Rattle.order.proofs.Placed.{placed_from, placed_has, placed_good}
use Rattle.order.proofs.SoundPuts.{GoodPuts, sound_puts, order_stands, stands_order, line_on}

pub decided : Decided
decided L l u v = Decides-like _ (precedes_more (placed_from L) u v) (precedes_more (placed_has L) u v) (bef_decides (placed L) (placed_good L l) u v)

pub set_alone : SetAlone
set_alone L M l m w u v =
    let (to, from) = order_alike L M w u v in
    same_from_decides _ _ (decided L l u v) (Decides-like _ from to (decided M m u v))

pub no_ring : NoRing
no_ring S s u h = let q = sound_puts S s in (laws q.list q.good).irreflexive u (order_stands q u u h)

pub all_inside : Inside
all_inside S s u h low = let i = inside q.list q.good u (line_on q u h) in (strictly 0 u (omega arith) i.0, strictly u 1 (omega arith) i.1)
  where
    q : GoodPuts S
    q = sound_puts S s

    strictly : (x y : ℕ) → (x ≡ y → ⊥) → AtOrBefore (Stands q.list) x y → Order S x y
    strictly x y ne (inl e) = absurd (ne e)
    strictly x y ne (inr k) = stands_order q x y k
