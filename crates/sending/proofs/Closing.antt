-- Each change of a letter needs only what the other has and what comes before it.
-- Follows P cs: each change of cs needs only names of which P holds, or that come before it.
-- Assumes nothing.
use Rattle.std.proofs.Common.{◌≡◌, ℕ, ◌⊎◌, List, [], ◌∷◌, ◌++◌, sym, refl, ap, ◌∙◌, subst, inl, inr}
use Rattle.change.specs.Membership.{In}
use Rattle.change.specs.Model.{Change}
use Rattle.order.specs.Names.{HasName}
use Rattle.order.specs.Fits.{Closed}
use Rattle.order.proofs.Members.{in_left, in_right, in_either}
use Rattle.order.proofs.Deciding.{choice}
use Rattle.verdict.proofs.FromNeeds.{decides_among}
use Rattle.sending.specs.Relation.{Ordered, Sends}
use Rattle.sending.specs.Theorems.{AfterNeeds, ClosedTogether}

ordered_back : (front cs : List Change) → Ordered (front ++ cs) → Ordered cs
ordered_back [] cs o = o
ordered_back (x ∷ front) cs o = ordered_back front cs o.3

pub after_needs : AfterNeeds
after_needs has S closed letter s front c back e n i =
    let here : In c letter = subst (In c) (sym e) (in_right front (c ∷ back) c (inl refl)) in
    let (d, j, named) = closed c ((s.exactly c).0 here).0 n i in
    elim (choice _ (decides_among n has)) [
      | yes k ↦ inl k
      | no none ↦ elim (in_either front (c ∷ back) d (subst (In d) e ((s.exactly d).1 (j, λ k. none (rw named at k))))) [
        | inl k ↦ inr (d, k, named)
        | inr k ↦ absurd ((ordered_back front (c ∷ back) (subst Ordered e s.ordered)).1 d k (rw named i))
      ]
    ]

cut_at : (cs : List Change) (c : Change) → In c cs → (front : List Change) × (back : List Change) × (cs ≡ front ++ c ∷ back)
cut_at [] c i = absurd i
cut_at (x ∷ cs) c (inl e) = ([], cs, rw e refl)
cut_at (x ∷ cs) c (inr i) = let (front, back, e) = cut_at cs c i in (x ∷ front, back, ap (λ ds. x ∷ ds) e)

pub closed_together : ClosedTogether
closed_together has S H closed closed_H named letter s c i n j = elim (in_either letter H c i) [
  | inl k ↦
      let (front, back, e) = cut_at letter c k in
      elim (after_needs has S closed letter s front c back e n j) [
        | inl h ↦ let (d, m, f) = named n h in (d, in_right letter H d m, f)
        | inr (d, m, f) ↦ (d, in_left letter H d (subst (In d) (sym e) (in_left front (c ∷ back) d m)), f)
      ]
  | inr k ↦ let (d, m, f) = closed_H c k n j in (d, in_right letter H d m, f)
]

abbrev pub Follows : (ℕ → Type 0) → List Change → Type 0
Follows P [] = Unit {0}
Follows P (c ∷ cs) = ((n : ℕ) → In n c.needs → P n) × Follows (λ n. P n ⊎ (c.name ≡ n)) cs

pub follows_more : (P Q : ℕ → Type 0) → ((n : ℕ) → P n → Q n) → (cs : List Change) → Follows P cs → Follows Q cs
follows_more P Q f [] h = tt
follows_more P Q f (c ∷ cs) (needs, h) =
    (λ n i. f n (needs n i), follows_more _ _ (λ n p. elim p [ inl a ↦ inl (f n a) | inr e ↦ inr e ]) cs h)

-- where of each cut the next change needs only what P says and what stands in front of the cut
cuts_follow :
    (P : ℕ → Type 0) (cs : List Change) →
    ((front : List Change) (c : Change) (back : List Change) → cs ≡ front ++ c ∷ back → (n : ℕ) → In n c.needs → P n ⊎ HasName front n) → Follows P cs
cuts_follow P [] cuts = tt
cuts_follow P (c ∷ cs) cuts = (
  λ n i. elim (cuts [] c cs refl n i) [ inl p ↦ p | inr (d, k, e) ↦ absurd k ],
  cuts_follow (λ n. P n ⊎ (c.name ≡ n)) cs (λ front x back e n i. elim (cuts (c ∷ front) x back (ap (λ ds. c ∷ ds) e) n i) [
    | inl p ↦ inl (inl p)
    | inr (d, inl f, g) ↦ inl (inr (ap (λ y. y.name) (sym f) ∙ g))
    | inr (d, inr k, g) ↦ inr (d, k, g)
  ]),
)

pub letter_follows : (has : List ℕ) (S : List Change) → Closed S → (letter : List Change) → Sends has S letter → Follows (λ n. In n has) letter
letter_follows has S closed letter s = cuts_follow (λ n. In n has) letter (after_needs has S closed letter s)
