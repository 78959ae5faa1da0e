-- The numbers of the lines that changes add, and that no two of them are the same.
-- Assumes nothing.
use Rattle.std.proofs.Common.{◌≡◌, ℕ, suc, Bool, true, false, cond, List, [], ◌∷◌, ◌++◌, map, filter, sym, refl, ap, ◌∙◌, inl, inr, ⊎_elim, arith}
use mathlib.Core.Path.{fun_ext}
use Rattle.std.specs.List.{flat_map}
use Rattle.std.proofs.lemmas.List.{map-append}
use Rattle.std.proofs.lemmas.Bool.{cond_both}
use Rattle.change.specs.Membership.{In}
use Rattle.change.specs.Model.{Add, Change, line_of}
use Rattle.order.specs.Order.{Put, puts_from, puts}
use Rattle.order.specs.Fits.{Listed}
use Rattle.order.proofs.Members.{in_either, kept_from}
use Rattle.order.proofs.Numbers.{puts_range, same_name}
use Rattle.order.proofs.Placed.{listed_formed}
use Rattle.blocks.specs.Sheet.{lines, added, unkilled, living}
use Rattle.sheet.specs.Lines.{Distinct}
use Rattle.display.specs.Added.{added_from, added_by, spared, sparing}

module _ (test : ℕ → Bool) where
  numbers_kept : (ps : List (ℕ × List ℕ)) → map (λ p. p.0) (filter (λ p. test p.0) ps) ≡ filter test (map (λ p. p.0) ps)
  numbers_kept [] = refl
  numbers_kept (p ∷ ps) = go (test p.0) (numbers_kept ps)
    where
      go : (b : Bool) → map (λ q. q.0) (filter (λ q. test q.0) ps) ≡ filter test (map (λ q. q.0) ps) →
          map (λ (q : ℕ × List ℕ). q.0) (cond b (p ∷ filter (λ q. test q.0) ps) (filter (λ q. test q.0) ps)) ≡ cond b (p.0 ∷ filter test (map (λ q. q.0) ps)) (filter test (map (λ q. q.0) ps))
      go true e = ap (λ l. p.0 ∷ l) e
      go false e = e

numbers_from : (n : ℕ) (adds : List Add) → map (λ p. p.0) (added_from n adds) ≡ lines (puts_from n adds)
numbers_from n [] = refl
numbers_from n (a ∷ adds) = ap (λ l. n ∷ l) (numbers_from (suc n) adds)

pub numbers_joined : (S : List Change) → map (λ p. p.0) (flat_map added_by S) ≡ added S
numbers_joined [] = refl
numbers_joined (c ∷ S) = map-append (λ p. p.0) (added_by c) (flat_map added_by S) ∙ (λ i. numbers_from (line_of c.name 0) c.adds i ++ numbers_joined S i)

-- what is left when the right lines are struck out lives
pub spared_lives : (ks : List ℕ) (S : List Change) → ((u : ℕ) → spared ks u ≡ unkilled S u) → map (λ p. p.0) (sparing ks (flat_map added_by S)) ≡ living S
spared_lives ks S same =
    numbers_kept (spared ks) (flat_map added_by S)
    ∙ ap (λ test. filter test (map (λ p. p.0) (flat_map added_by S))) (fun_ext same)
    ∙ ap (filter (unkilled S)) (numbers_joined S)

distinct_append : (us vs : List ℕ) → Distinct us → Distinct vs → ((u : ℕ) → In u us → In u vs → ⊥) → Distinct (us ++ vs)
distinct_append [] vs d e apart = e
distinct_append (u ∷ us) vs d e apart =
    (λ i. ⊎_elim d.0 (apart u (inl refl)) (in_either us vs u i), distinct_append us vs d.1 e (λ v i. apart v (inr i)))

distinct_kept : (test : ℕ → Bool) (us : List ℕ) → Distinct us → Distinct (filter test us)
distinct_kept test [] d = tt
distinct_kept test (u ∷ us) d =
    let rest = distinct_kept test us d.1 in
    cond_both (test u) (u ∷ filter test us) (filter test us) Distinct (λ _. (λ i. d.0 (kept_from test us u i).0, rest)) (λ _. rest)

in_lines : (ps : List Put) (u : ℕ) → In u (lines ps) → (p : Put) × In p ps × (p.line ≡ u)
in_lines [] u i = absurd i
in_lines (q ∷ ps) u (inl e) = (q, inl refl, sym e)
in_lines (q ∷ ps) u (inr i) = let (p, j, e) = in_lines ps u i in (p, inr j, e)

pub in_added : (S : List Change) (u : ℕ) → In u (added S) → (c : Change) × In c S × ((p : Put) × In p (puts c) × (p.line ≡ u))
in_added [] u i = absurd i
in_added (c ∷ S) u i =
    ⊎_elim (λ j. (c, inl refl, in_lines (puts c) u j)) (λ j. let (d, k, p) = in_added S u j in (d, inr k, p)) (in_either (lines (puts c)) (added S) u i)

distinct_lines : (n : ℕ) (adds : List Add) → Distinct (lines (puts_from n adds))
distinct_lines n [] = tt
distinct_lines n (a ∷ adds) = (λ i. let (p, j, e) = in_lines (puts_from (suc n) adds) n i in omega (arith, puts_range (suc n) adds p j), distinct_lines (suc n) adds)

distinct_added : (S : List Change) → Listed S → Distinct (added S)
distinct_added [] l = tt
distinct_added (c ∷ S) (f, l) = distinct_append (lines (puts c)) (added S) (distinct_lines _ c.adds) (distinct_added S l) apart
  where
    apart : (u : ℕ) → In u (lines (puts c)) → In u (added S) → ⊥
    apart u i j =
        let (p, k, e) = in_lines (puts c) u i in
        let (d, m, (q, o, e')) = in_added S u j in
        f.new d m (same_name d c (listed_formed S l d m) f.formed q p o k (e' ∙ sym e))

pub living_distinct : (S : List Change) → Listed S → Distinct (living S)
living_distinct S l = distinct_kept (unkilled S) (added S) (distinct_added S l)
