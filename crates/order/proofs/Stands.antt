-- That a good list of puts makes an order: only lines of the list stand in it, none before itself, and each between the start and the end.
-- Laws Q: the first two, on which one more put relies. AllInside Q: the third.
-- Assumes nothing.
use Rattle.std.proofs.Common.{◌≡◌, ℕ, ◌⊎◌, List, [], ◌∷◌, sym, refl, ap, ◌∙◌, subst, inl, inr, arith}
use Rattle.change.specs.Membership.{In}
use Rattle.order.specs.Order.{Put, whole, behind, ahead, through, AtOrBefore}
use Rattle.order.specs.Good.{Stands, On, NewOn, Good}
use Rattle.order.proofs.Precedes.{Sub, precedes_transitive, line_more, at_then, then_at, at_more}
use Rattle.order.proofs.Grown.{Grown, from, into, old, Takes, grown_irreflexive, grown_transitive}
use Rattle.order.proofs.Steps.{stands_old, grown_stands, bef_stands}

pub on_new : (p : Put) (Q : List Put) → On (p ∷ Q) p.line
on_new p Q = inr (inr (p, inl refl, refl))

pub on_old : (p : Put) (Q : List Put) (u : ℕ) → On Q u → On (p ∷ Q) u
on_old p Q = line_more (λ q i. inr i)

pub on_cases : (p : Put) (Q : List Put) (u : ℕ) → On (p ∷ Q) u → (u ≡ p.line) ⊎ On Q u
on_cases p Q u (inl e) = inr (inl e)
on_cases p Q u (inr (inl e)) = inr (inr (inl e))
on_cases p Q u (inr (inr (q, inl e, f))) = inl (sym f ∙ ap (λ r. r.line) e)
on_cases p Q u (inr (inr (q, inr i, f))) = inr (inr (inr (q, i, f)))

-- Where nothing is put, the start stands before the end, and that is all.
pub nothing_put : (u v : ℕ) → Stands [] u v → (u ≡ 0) × (v ≡ 1)
nothing_put _ _ whole = (refl, refl)
nothing_put _ _ (behind p h) = absurd h
nothing_put _ _ (ahead p h) = absurd h
nothing_put u w (through v h k) = ((nothing_put u v h).0, (nothing_put v w k).1)

pub record Laws (Q : List Put) : Type 0 where
  pub ends : (u v : ℕ) → Stands Q u v → On Q u × On Q v
  pub irreflexive : (u : ℕ) → Stands Q u u → ⊥

abbrev AllInside : List Put → Type 0
AllInside Q = (u : ℕ) → On Q u → AtOrBefore (Stands Q) 0 u × AtOrBefore (Stands Q) u 1

module _ (p : Put) (Q : List Put) (n : NewOn Q p) (l : Laws Q) where
  pub takes : Takes (Stands Q) p
  takes = record {
    transitive = precedes_transitive;
    irreflexive = l.irreflexive;
    between = bef_stands Q _ _ n.between;
    absent = λ u v h. (λ e. n.new (subst (On Q) e (l.ends u v h).0), λ e. n.new (subst (On Q) e (l.ends u v h).1));
  }

  pub stands_grown : Sub (Stands (p ∷ Q)) (Grown (Stands Q) p)
  stands_grown _ _ whole = old whole
  stands_grown _ _ (behind q (inl e)) = into (ap (λ r. r.line) e) (inl (ap (λ r. r.after) e))
  stands_grown _ _ (behind q (inr i)) = old (behind q i)
  stands_grown _ _ (ahead q (inl e)) = from (ap (λ r. r.line) e) (inl (sym (ap (λ r. r.before) e)))
  stands_grown _ _ (ahead q (inr i)) = old (ahead q i)
  stands_grown u w (through v h k) = grown_transitive takes u v w (stands_grown u v h) (stands_grown v w k)

  grown_ends : (u v : ℕ) → Grown (Stands Q) p u v → On (p ∷ Q) u × On (p ∷ Q) v
  grown_ends u v (from e h) = (rw e (on_new p Q), on_old p Q v (l.ends _ v (then_at precedes_transitive takes.between h)).1)
  grown_ends u v (into e h) = (on_old p Q u (l.ends u _ (at_then precedes_transitive h takes.between)).0, rw e (on_new p Q))
  grown_ends u v (old h) = (on_old p Q u (l.ends u v h).0, on_old p Q v (l.ends u v h).1)

  laws_more : Laws (p ∷ Q)
  laws_more = record {
    ends = λ u v h. grown_ends u v (stands_grown u v h);
    irreflexive = λ u h. grown_irreflexive takes u (stands_grown u u h);
  }

  inside_more : AllInside Q → (u : ℕ) → (u ≡ p.line) ⊎ On Q u → AtOrBefore (Stands (p ∷ Q)) 0 u × AtOrBefore (Stands (p ∷ Q)) u 1
  inside_more i u (inl e) =
      let k = l.ends _ _ takes.between in
      (inr (grown_stands p Q 0 u (into e (i _ k.0).0)), inr (grown_stands p Q u 1 (from e (i _ k.1).1)))
  inside_more i u (inr o) = (at_more (stands_old p Q) _ _ (i u o).0, at_more (stands_old p Q) _ _ (i u o).1)

pub laws : (Q : List Put) → Good Q → Laws Q
laws [] g = record {
  ends = λ u v h. (inl (nothing_put u v h).0, inr (inl (nothing_put u v h).1));
  irreflexive = λ u h. let e = nothing_put u u h in omega arith;
}
laws (p ∷ Q) (n, g) = laws_more p Q n (laws Q g)

pub inside : (Q : List Put) → Good Q → AllInside Q
inside [] g u (inl e) = (inl (sym e), inr (rw e whole))
inside [] g u (inr (inl e)) = (inr (rw e whole), inl e)
inside [] g u (inr (inr (q, i, e))) = absurd i
inside (p ∷ Q) (n, g) u h = inside_more p Q n (laws Q g) (inside Q g) u (on_cases p Q u h)

-- one line, one put
pub same_put : (Q : List Put) → Good Q → (p q : Put) → In p Q → In q Q → p.line ≡ q.line → p ≡ q
same_put [] g p q i j e = absurd i
same_put (r ∷ Q) (n, g) p q (inl a) (inl b) e = a ∙ sym b
same_put (r ∷ Q) (n, g) p q (inl a) (inr j) e = absurd (n.new (inr (inr (q, j, sym e ∙ ap (λ s. s.line) a))))
same_put (r ∷ Q) (n, g) p q (inr i) (inl b) e = absurd (n.new (inr (inr (p, i, e ∙ ap (λ s. s.line) b))))
same_put (r ∷ Q) (n, g) p q (inr i) (inr j) e = same_put Q g p q i j e
