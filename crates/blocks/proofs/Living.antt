-- The list of living lines has exactly those that live.
-- Assumes nothing.
use Rattle.std.proofs.Common.{◌≡◌, ℕ, ◌≤◌, not, eqb, List, [], ◌∷◌, Decides, sym, refl, ap, subst, inl, inr, ⊎_elim, arith}
use Rattle.std.proofs.lemmas.Bool.Decides.{Decides-eqb, Decides-not, Decides-like}
use Rattle.change.specs.Membership.{In}
use Rattle.change.specs.Model.{Change}
use Rattle.change.proofs.Limits.{name_least}
use Rattle.order.specs.Order.{Put, puts, Line, Dead}
use Rattle.order.proofs.Members.{in_left, in_right, in_either, kept_from, kept_has}
use Rattle.order.proofs.Deciding.{decides_every}
use Rattle.order.proofs.Numbers.{put_by_name}
use Rattle.order.proofs.Placed.{listed_formed}
use Rattle.blocks.specs.Sheet.{gather, lines, added, killed, unkilled, living}
use Rattle.blocks.specs.Theorems.{LivingAlive}

module _ (part : Change → List ℕ) (u : ℕ) where
  pub gather_in : (S : List Change) (c : Change) → In c S → In u (part c) → In u (gather part S)
  gather_in [] c i j = absurd i
  gather_in (d ∷ S) c (inl e) j = in_left (part d) (gather part S) u (subst (λ x. In u (part x)) e j)
  gather_in (d ∷ S) c (inr i) j = in_right (part d) (gather part S) u (gather_in S c i j)

  in_gather : (S : List Change) → In u (gather part S) → (c : Change) × In c S × In u (part c)
  in_gather [] i = absurd i
  in_gather (d ∷ S) i = ⊎_elim (λ j. (d, inl refl, j)) (λ j. let (c, k, l) = in_gather S j in (c, inr k, l)) (in_either (part d) (gather part S) u i)

pub lines_in : (ps : List Put) (p : Put) → In p ps → In p.line (lines ps)
lines_in [] p i = absurd i
lines_in (q ∷ ps) p (inl e) = inl (ap (λ x. x.line) e)
lines_in (q ∷ ps) p (inr i) = inr (lines_in ps p i)

in_lines : (ps : List Put) (u : ℕ) → In u (lines ps) → (p : Put) × In p ps × (p.line ≡ u)
in_lines [] u i = absurd i
in_lines (q ∷ ps) u (inl e) = (q, inl refl, sym e)
in_lines (q ∷ ps) u (inr i) = let (p, j, e) = in_lines ps u i in (p, inr j, e)

unkilled_decides : (S : List Change) (u : ℕ) → Decides (unkilled S u) (Dead S u → ⊥)
unkilled_decides S u =
    Decides-like _ (λ h (c, i, j). h u (gather_in (λ c. c.kills) u S c i j) refl) (λ alive v i e. alive (in_gather (λ c. c.kills) u S (subst (λ x. In x (killed S)) e i)))
    (decides_every (λ v. not (eqb v u)) (λ v. v ≡ u → ⊥) (λ v. Decides-not (eqb v u) (Decides-eqb v u)) (killed S))

pub living_alive : LivingAlive
living_alive L h u = (to, from)
  where
    to : In u (living L) → Line L u × (2 ≤ u) × (Dead L u → ⊥)
    to i =
        let (a, t) = kept_from (unkilled L) (added L) u i in
        let (c, j, l) = in_gather (λ c. lines (puts c)) u L a in
        let (p, k, e) = in_lines (puts c) u l in
        let f = listed_formed L h c j in
        (inr (inr (p, (c, j, k), e)), omega (arith, name_least c f, put_by_name c f p k), (unkilled_decides L u).0 t)

    from : Line L u × (2 ≤ u) × (Dead L u → ⊥) → In u (living L)
    from (inl e, high, alive) = absurd (omega arith)
    from (inr (inl e), high, alive) = absurd (omega arith)
    from (inr (inr (p, (c, j, k), e)), high, alive) =
        kept_has (unkilled L) (added L) u (gather_in (λ c. lines (puts c)) u L c j (subst (λ x. In x (lines (puts c))) e (lines_in (puts c) p k))) ((unkilled_decides L u).1 alive)
