-- That sound sets with one change to a name agree on the lines that both have: the puts of both, with the lines that they name, keep the order of each.
-- Both S R p: S and R put p.
-- Assumes nothing.
use Rattle.std.proofs.Common.{◌≡◌, ℕ, List, ◌∷◌, sym, ◌∙◌, subst, inl, inr}
use Rattle.change.specs.Membership.{In, Within}
use Rattle.change.specs.Model.{Change}
use Rattle.order.specs.Order.{Put, puts, Brought, LineOf, Line, Order}
use Rattle.order.specs.Fits.{Sound, OneChange}
use Rattle.order.specs.Theorems.{Steady}
use Rattle.order.proofs.Precedes.{precedes_more, line_more, brought_more}
use Rattle.order.proofs.PartOrder.{HasItsLines, part_keeps}
use Rattle.order.proofs.Numbers.{same_name}
use Rattle.order.proofs.SoundPuts.{sound_puts, order_stands, sound_formed, sound_has_its_lines}
use Rattle.order.proofs.Fitting.{sound_more}
use Rattle.order.proofs.OneName.{sound_one}

abbrev Both : List Change → List Change → Put → Type 0
Both S R p = Brought S p × Brought R p

module _ (S R : List Change) (s : Sound S) (r : Sound R) (one : OneChange S R) where
  -- a line of both sets is put by one change
  both_put : (p q : Put) → Brought S p → Brought R q → p.line ≡ q.line → Both S R p
  both_put p q (c, i, j) (d, k, m) e =
      let same = one c d i k (same_name c d (sound_formed S s c i) (sound_formed R r d k) p q j m e) in
      ((c, i, j), (d, k, subst (λ x. In p (puts x)) same j))

  both_line : (u : ℕ) → Line S u → Line R u → LineOf (Both S R) u
  both_line u (inl e) h = inl e
  both_line u (inr (inl e)) h = inr (inl e)
  both_line u (inr (inr k)) (inl e) = inl e
  both_line u (inr (inr k)) (inr (inl e)) = inr (inl e)
  both_line u (inr (inr (p, b, e))) (inr (inr (q, c, f))) = inr (inr (p, both_put p q b c (e ∙ sym f), e))

  both_has_its_lines : HasItsLines (Both S R)
  both_has_its_lines p (b, c) =
      let m = sound_has_its_lines S s p b in
      let n = sound_has_its_lines R r p c in
      (both_line _ m.0 n.0, both_line _ m.1 n.1)

  pub agree : (u v : ℕ) → Line S u → Line S v → Line R u → Line R v → Order S u v → Order R u v
  agree u v su sv ru rv h =
      let q = sound_puts S s in
      let kept = part_keeps q.list q.good (Both S R) both_has_its_lines (λ p b. q.has p b.0) in
      precedes_more (λ p b. b.1) u v (kept u v (both_line u su ru) (both_line v sv rv) (order_stands q u v h))

-- A sound part of a sound set keeps its order.
pub agree_within : (R S : List Change) → Sound R → Sound S → Within R S → (u v : ℕ) → Line R u → Line R v → (Order R u v → Order S u v) × (Order S u v → Order R u v)
agree_within R S r s w u v hu hv = (precedes_more more u v, agree S R s r (λ c d i j. sound_one S s c d i (w d j)) u v (line_more more u hu) (line_more more v hv) hu hv)
  where
    more : (p : Put) → Brought R p → Brought S p
    more = brought_more R S w

pub steady : Steady
steady S c s f = agree_within S (c ∷ S) s (sound_more S c s f) (λ d i. inr i)
