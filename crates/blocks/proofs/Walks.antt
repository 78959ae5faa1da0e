-- The walk of the function is a walk, and goes through all the lines: among some lines of a strict order one is free.
-- Walked before ls ws: ws is a walk through the lines of ls.
-- Assumes nothing.
use Rattle.std.proofs.Common.{◌≡◌, ℕ, zero, suc, ◌<◌, ◌≤◌, Bool, true, false, cond, not, eqb, leb, ◌⊎◌, List, [], ◌∷◌, length, Decides, filter, sym, refl, ◌∙◌, subst, inl, inr, ⊎_elim, arith}
use Rattle.std.proofs.lemmas.Bool.{both_ways, not-true, not_from_false, cases_Bool, cases_eq, cases_cond, eq-eqb, ne_eqb}
use Rattle.std.proofs.lemmas.Bool.Decides.{nat_tests, Decides-not}
use Rattle.std.proofs.lemmas.List.Filters.{length-filter_both}
use Rattle.change.specs.Membership.{In, SameMembers}
use Rattle.order.proofs.Members.{kept_from, kept_has}
use Rattle.order.proofs.Deciding.{decides_itself, decides_every}
use Rattle.blocks.specs.Relation.{Free, Walk}
use Rattle.blocks.specs.Function.{free, lowest, without, go_on, walk}
use Rattle.blocks.specs.Strict.{Says, Strict}

lowest_in : (u : ℕ) (us : List ℕ) → In (lowest u us) (u ∷ us)
lowest_in u [] = inl refl
lowest_in u (v ∷ us) = go (lowest_in w us) (cases_cond (leb u v) u v w refl)
  where
    w : ℕ
    w = cond (leb u v) u v

    go : In (lowest w us) (w ∷ us) → (w ≡ u) ⊎ (w ≡ v) → In (lowest w us) (u ∷ v ∷ us)
    go (inl e) (inl d) = inl (e ∙ d)
    go (inl e) (inr d) = inr (inl (e ∙ d))
    go (inr i) _ = inr (inr i)

lowest_low : (u : ℕ) (us : List ℕ) (v : ℕ) → In v (u ∷ us) → lowest u us ≤ v
lowest_low u [] v (inl e) = omega arith
lowest_low u [] v (inr i) = elim i [ ]
lowest_low u (x ∷ us) v i = go i (lowest_low w us)
  where
    w : ℕ
    w = cond (leb u x) u x

    least : (w ≤ u) × (w ≤ x)
    least = (grind (arith, nat_tests), grind (arith, nat_tests))

    go : In v (u ∷ x ∷ us) → ((y : ℕ) → In y (w ∷ us) → lowest w us ≤ y) → lowest w us ≤ v
    go (inl e) low = omega (arith, low w (inl refl), least.0)
    go (inr (inl e)) low = omega (arith, low w (inl refl), least.1)
    go (inr (inr j)) low = low v (inr j)

in_long : (u : ℕ) (ls : List ℕ) → In u ls → 0 < length ls
in_long u [] i = elim i [ ]
in_long u (v ∷ ls) i = omega arith

without_shorter : (u : ℕ) (ls : List ℕ) → In u ls → length (without u ls) < length ls
without_shorter u ls i =
    let more = in_long u (filter (λ v. eqb v u) ls) (kept_has (λ v. eqb v u) ls u i (eq-eqb u u refl)) in
    omega (arith, length-filter_both (λ v. eqb v u) (λ v. not (eqb v u)) (λ _. refl) ls)

abbrev pub Walked : (ℕ → ℕ → Bool) → List ℕ → List ℕ → Type 0
Walked before ls ws = Walk (Says before) ws × SameMembers ws ls

module _ (before : ℕ → ℕ → Bool) where
  free_decides : (u : ℕ) (ls : List ℕ) → Decides (free before ls u) (Free (Says before) ls u)
  free_decides u = decides_every (λ v. not (before v u)) (λ v. Says before v u → ⊥) (λ v. Decides-not (before v u) (decides_itself (before v u)))

  module _ (strict : Strict (Says before)) where
    not_itself : (u v : ℕ) → v ≡ u → Says before v u → ⊥
    not_itself u v e r = strict.never u (subst (λ x. Says before x u) e r)

    some_free : (u : ℕ) (ls : List ℕ) → (m : ℕ) × In m (u ∷ ls) × Free (Says before) (u ∷ ls) m
    some_free u [] = (u, inl refl, λ v. ⊎_elim (not_itself u v) absurd)
    some_free u (v ∷ ls) = let (m, i, f) = some_free v ls in go m i f (cases_Bool (before u m))
      where
        go : (m : ℕ) → In m (v ∷ ls) → Free (Says before) (v ∷ ls) m → (before u m ≡ true) ⊎ (before u m ≡ false) → (m : ℕ) × In m (u ∷ v ∷ ls) × Free (Says before) (u ∷ v ∷ ls) m
        go m i f (inl r) = (u, inl refl, λ x. ⊎_elim (not_itself u x) (λ j q. f x j (strict.onward u q r)))
        go m i f (inr n) = (m, inr i, λ x. ⊎_elim (λ e q. both_ways (before u m) n (subst (λ y. Says before y m) e q)) (f x))

    none_without_free : (ls : List ℕ) → filter (free before ls) ls ≡ [] → (u : ℕ) → In u ls → ⊥
    none_without_free [] e u i = i
    none_without_free (v ∷ ls) e u i =
        let (m, j, f) = some_free v ls in
        subst (In m) e (kept_has (free before (v ∷ ls)) (v ∷ ls) m j ((free_decides m (v ∷ ls)).1 f))

    -- one line, the lowest of the free ones, and the walk through the others
    walk_step :
        (n : ℕ) (ls fs : List ℕ) → filter (free before ls) ls ≡ fs → length ls ≤ suc n → ((ks : List ℕ) → length ks ≤ n → Walked before ks (walk before n ks)) →
        Walked before ls (go_on (walk before n) ls fs)
    walk_step n ls [] e h next = (tt, (λ u i. absurd i, none_without_free ls e))
    walk_step n ls (u ∷ us) e h next = ((once, stays_free, low, rest.0), (from, to))
      where
        m : ℕ
        m = lowest u us

        is_free : In m ls × (free before ls m ≡ true)
        is_free = kept_from (free before ls) ls m (subst (In m) (sym e) (lowest_in u us))

        ks : List ℕ
        ks = without m ls

        rest : Walked before ks (walk before n ks)
        rest = next ks (omega (arith, without_shorter m ls is_free.0))

        other : (v : ℕ) → In v ks → In v ls × (not (eqb v m) ≡ true)
        other v i = kept_from (λ x. not (eqb x m)) ls v i

        from : (v : ℕ) → In v (m ∷ walk before n ks) → In v ls
        from v (inl d) = subst (λ x. In x ls) (sym d) is_free.0
        from v (inr i) = (other v (rest.1.0 v i)).0

        to : (v : ℕ) → In v ls → In v (m ∷ walk before n ks)
        to v i = ⊎_elim inl (λ ne. inr (rest.1.1 v (kept_has (λ x. not (eqb x m)) ls v i (not_from_false (eqb v m) (ne_eqb v m ne))))) (cases_eq v m)

        once : In m (walk before n ks) → ⊥
        once i = both_ways (eqb m m) (not-true (eqb m m) (other m (rest.1.0 m i)).1) (eq-eqb m m refl)

        stays_free : Free (Says before) (m ∷ walk before n ks) m
        stays_free v i = (free_decides m ls).0 is_free.1 v (from v i)

        low : (v : ℕ) → In v (walk before n ks) → Free (Says before) (m ∷ walk before n ks) v → m ≤ v
        low v i f = lowest_low u us v (subst (In v) e (kept_has (free before ls) ls v (from v (inr i)) ((free_decides v ls).1 (λ x j. f x (to x j)))))

    pub walk_walked : (n : ℕ) (ls : List ℕ) → length ls ≤ n → Walked before ls (walk before n ls)
    walk_walked zero [] h = (tt, (λ _ i. i, λ _ i. i))
    walk_walked zero (u ∷ ls) h = absurd (omega arith)
    walk_walked (suc n) ls h = walk_step n ls (filter (free before ls) ls) refl h (walk_walked n)
