-- Joins of an order with one more line, from those of the order without it.
-- Join on R u v: a least line at or behind both u and v, by the order R, among those that `on` holds of. HasJoins on R: any two have one. OrNew on p: the line of p, or one that `on` holds of.
-- Assumes nothing.
use Rattle.std.proofs.Common.{◌≡◌, ℕ, ◌⊎◌, sym, refl, ◌∙◌, inl, inr}
use native.Mathlib.Decide.{ℕ_discrete}
use Rattle.order.specs.Order.{Put, AtOrBefore}
use Rattle.order.proofs.Precedes.{Sub, at_more}
use Rattle.order.proofs.Grown.{Grown, from, into, old, Takes}

abbrev pub Join : (ℕ → Type 0) → (ℕ → ℕ → Type 0) → ℕ → ℕ → Type 0
Join on R u v = (j : ℕ) × on j × AtOrBefore R u j × AtOrBefore R v j × ((w : ℕ) → on w → AtOrBefore R u w → AtOrBefore R v w → AtOrBefore R j w)

abbrev pub HasJoins : (ℕ → Type 0) → (ℕ → ℕ → Type 0) → Type 0
HasJoins on R = (u v : ℕ) → on u → on v → Join on R u v

pub joins_like : {on at : ℕ → Type 0} {R T : ℕ → ℕ → Type 0} → ((u : ℕ) → on u → at u) → ((u : ℕ) → at u → on u) → Sub R T → Sub T R → HasJoins on R → HasJoins at T
joins_like to back more less joins u v hu hv =
    let (j, o, l, r, least) = joins u v (back u hu) (back v hv) in
    (j, to j o, at_more more u j l, at_more more v j r, λ w h p q. at_more more j w (least w (back w h) (at_more less u w p) (at_more less v w q)))

-- Two lines, one before the other, have joins.
pub joins_two : (on : ℕ → Type 0) (R : ℕ → ℕ → Type 0) (s e : ℕ) → R s e → ((u : ℕ) → on u → (u ≡ s) ⊎ (u ≡ e)) → HasJoins on R
joins_two on R s e h two u v hu hv = go (two u hu) (two v hv)
  where
    go : (u ≡ s) ⊎ (u ≡ e) → (v ≡ s) ⊎ (v ≡ e) → Join on R u v
    go (inl a) (inl b) = (v, hv, inl (a ∙ sym b), inl refl, λ w o p q. q)
    go (inl a) (inr b) = (v, hv, rw (a, b) (inr h), inl refl, λ w o p q. q)
    go (inr a) (inl b) = (u, hu, inl refl, rw (a, b) (inr h), λ w o p q. p)
    go (inr a) (inr b) = (u, hu, inl refl, inl (b ∙ sym a), λ w o p q. p)

swapped : (on : ℕ → Type 0) (R : ℕ → ℕ → Type 0) (u v : ℕ) → Join on R u v → Join on R v u
swapped on R u v (j, o, l, r, least) = (j, o, r, l, λ w h p q. least w h q p)

at_or_before : {R : ℕ → ℕ → Type 0} → ((u v : ℕ) → Dec (R u v)) → (u v : ℕ) → Dec (AtOrBefore R u v)
at_or_before {R} decide u v = go (ℕ_discrete u v) (decide u v)
  where
    go : Dec (u ≡ v) → Dec (R u v) → Dec (AtOrBefore R u v)
    go (yes e) d = yes (inl e)
    go (no ne) (yes h) = yes (inr h)
    go (no ne) (no nh) = no (λ k. elim k [ inl e ↦ ne e | inr h ↦ nh h ])

abbrev pub OrNew : (ℕ → Type 0) → Put → ℕ → Type 0
OrNew on p u = (u ≡ p.line) ⊎ on u

module _ {on : ℕ → Type 0} {R : ℕ → ℕ → Type 0} {p : Put} (t : Takes R p) (away : (u : ℕ) → on u → u ≡ p.line → ⊥) (on_after : on p.after) (on_before : on p.before) where
  -- between old lines nothing has changed
  raised : Sub (AtOrBefore R) (AtOrBefore (Grown R p))
  raised = at_more (λ u v h. old h)

  lowered : (u v : ℕ) → on u → on v → AtOrBefore (Grown R p) u v → AtOrBefore R u v
  lowered u v hu hv (inl e) = inl e
  lowered u v hu hv (inr (from e h)) = absurd (away u hu e)
  lowered u v hu hv (inr (into e h)) = absurd (away v hv e)
  lowered u v hu hv (inr (old h)) = inr h

  up_to_new : (u w : ℕ) → on u → w ≡ p.line → AtOrBefore (Grown R p) u w → AtOrBefore R u p.after
  up_to_new u w hu f (inl e) = absurd (away u hu (e ∙ f))
  up_to_new u w hu f (inr (from e h)) = absurd (away u hu e)
  up_to_new u w hu f (inr (into e h)) = h
  up_to_new u w hu f (inr (old h)) = absurd ((t.absent u w h).1 f)

  past_new : (v : ℕ) → on v → AtOrBefore (Grown R p) p.line v → AtOrBefore R p.before v
  past_new v hv (inl e) = absurd (away v hv (sym e))
  past_new v hv (inr (from e h)) = h
  past_new v hv (inr (into e h)) = absurd (away v hv e)
  past_new v hv (inr (old h)) = absurd ((t.absent _ v h).0 refl)

  -- With a line at or before its `after`, the join of the new line is the new line; with any other, it is the join of its `before` and that line.
  join_new : (v : ℕ) → on v → Dec (AtOrBefore R v p.after) → Join on R p.before v → Join (OrNew on p) (Grown R p) p.line v
  join_new v hv (yes h) k = (p.line, inl refl, inl refl, inr (into refl h), λ w o a b. a)
  join_new v hv (no far) (j, o, l, r, least) = (j, inr o, inr (from refl l), raised v j r, least')
    where
      least' : (w : ℕ) → OrNew on p w → AtOrBefore (Grown R p) p.line w → AtOrBefore (Grown R p) v w → AtOrBefore (Grown R p) j w
      least' w (inl e) a b = absurd (far (up_to_new v w hv e b))
      least' w (inr k) a b = raised j w (least w k (past_new w k a) (lowered v w hv k b))

  join_old : (u v : ℕ) → on u → on v → Join on R u v → Join (OrNew on p) (Grown R p) u v
  join_old u v hu hv (j, o, l, r, least) = (j, inr o, raised u j l, raised v j r, least')
    where
      least' : (w : ℕ) → OrNew on p w → AtOrBefore (Grown R p) u w → AtOrBefore (Grown R p) v w → AtOrBefore (Grown R p) j w
      least' w (inl e) a b = inr (into e (least _ on_after (up_to_new u w hu e a) (up_to_new v w hv e b)))
      least' w (inr k) a b = raised j w (least w k (lowered u w hu k a) (lowered v w hv k b))

  pub joins_grown : ((u v : ℕ) → Dec (R u v)) → HasJoins on R → HasJoins (OrNew on p) (Grown R p)
  joins_grown decide joins u v (inl e) (inl f) = (p.line, inl refl, inl e, inl f, λ w o a b. rw e at a)
  joins_grown decide joins u v (inl e) (inr k) = rw e (join_new v k (at_or_before decide v _) (joins _ v on_before k))
  joins_grown decide joins u v (inr h) (inl f) = rw f (swapped _ _ _ _ (join_new u h (at_or_before decide u _) (joins _ u on_before h)))
  joins_grown decide joins u v (inr h) (inr k) = join_old u v h k (joins u v h k)
