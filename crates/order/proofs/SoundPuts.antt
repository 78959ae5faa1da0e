-- That the puts of a sound set make a good list, so that what holds of good lists holds of the set.
-- GoodPuts S: a good list that has the puts of S and no others.
-- Assumes nothing.
use Rattle.std.proofs.Common.{◌≡◌, ℕ, true, List}
use Rattle.change.specs.Membership.{In}
use Rattle.change.specs.Model.{Change}
use Rattle.change.specs.WellFormed.{well_formed}
use Rattle.order.specs.Order.{Put, Brought, behind, ahead, Order, Line}
use Rattle.order.specs.Table.{placed}
use Rattle.order.specs.Good.{Stands, On, Good}
use Rattle.order.specs.Fits.{Sound}
use Rattle.order.proofs.Precedes.{Sub, precedes_more, line_more, brought_more}
use Rattle.order.proofs.Stands.{laws}
use Rattle.order.proofs.PartOrder.{HasItsLines}
use Rattle.order.proofs.Placed.{placed_from, placed_has, placed_good, listed_formed}

pub record GoodPuts (S : List Change) : Type 0 where
  pub list : List Put
  pub good : Good list
  pub from : (p : Put) → In p list → Brought S p
  pub has : (p : Put) → Brought S p → In p list

pub sound_puts : (S : List Change) → Sound S → GoodPuts S
sound_puts S (L, l, w) = record {
  list = placed L;
  good = placed_good L l;
  from = λ p i. brought_more L S w.0 p (placed_from L p i);
  has = λ p b. placed_has L p (brought_more S L w.1 p b);
}

module _ {S : List Change} (q : GoodPuts S) where
  pub order_stands : Sub (Order S) (Stands q.list)
  order_stands = precedes_more q.has

  pub stands_order : Sub (Stands q.list) (Order S)
  stands_order = precedes_more q.from

  pub line_on : (u : ℕ) → Line S u → On q.list u
  line_on = line_more q.has

  pub on_line : (u : ℕ) → On q.list u → Line S u
  on_line = line_more q.from

pub sound_formed : (S : List Change) → Sound S → (c : Change) → In c S → well_formed c ≡ true
sound_formed S (L, l, w) c i = listed_formed L l c (w.1 c i)

pub sound_has_its_lines : (S : List Change) → Sound S → HasItsLines (Brought S)
sound_has_its_lines S s p b =
    let q = sound_puts S s in
    let ends = (laws q.list q.good).ends in
    (on_line q _ (ends _ _ (behind p (q.has p b))).0, on_line q _ (ends _ _ (ahead p (q.has p b))).1)
