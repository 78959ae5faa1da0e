-- That the walk can be followed by counting what is still ahead of each change.
-- Assumes nothing.
use Rattle.std.proofs.Common.{◌≡◌, ℕ, zero, suc, ◌+◌, ◌<◌, ◌≤◌, Bool, true, cond, not, eqb, List, [], ◌∷◌, length, Some, None, count_by, filter, Option, sym, refl, ap, ◌∙◌, inl, inr, arith}
use Rattle.std.proofs.lemmas.List.Sums.{sum_by-cons}
use Rattle.std.proofs.lemmas.List.Filters.{sum_by-filter_both}
use Rattle.std.proofs.lemmas.Bool.{cases_Bool, eq-eqb, ne_eqb, cond-true, cond-false, not_from_true}
use Rattle.change.specs.Membership.{In}
use Rattle.change.specs.Model.{Change}
use Rattle.order.specs.Theorems.{without}
use Rattle.order.proofs.Members.{kept_from, kept_has}
use Rattle.verdict.specs.FromNeeds.{is_among}
use Rattle.verdict.proofs.FromNeeds.{decides_among}
use Rattle.history.specs.Taking.{lowest}
use Rattle.history.specs.Sane.{Distinct}
use Rattle.history.proofs.Names.{distinct_one, length_kept_less}
use Rattle.history.proofs.Lowest.{IsLowest, lowest_is}
use Rattle.sending.specs.Sending.{goes_first, go_on, walk, walk_all}
use Rattle.sending.specs.Counting.{ahead}
use Rattle.sending.specs.Relation.{GoesFirst}
use Rattle.sending.specs.Theorems.{CountsTell}
use Rattle.sending.proofs.Firsts.{goes_first_lem}
use Rattle.sending.proofs.Walks.{walk_enough}

-- a count is 0 exactly if none passes
module _ {X : Type 0} (test : X → Bool) where
  abbrev one : X → ℕ
  one x = cond (test x) 1 0

  none_counted : (xs : List X) → count_by test xs ≡ 0 → (x : X) → In x xs → test x ≡ true → ⊥
  none_counted [] e x i t = i
  none_counted (y ∷ xs) e x (inl f) t =
      let counted : one y ≡ 1 = cond-true _ 1 0 (ap test (sym f) ∙ t) in
      omega (arith, sum_by-cons one y xs)
  none_counted (y ∷ xs) e x (inr i) t = none_counted xs (omega (arith, sum_by-cons one y xs)) x i t

  counted_none : (xs : List X) → ((x : X) → In x xs → test x ≡ true → ⊥) → count_by test xs ≡ 0
  counted_none [] none = refl
  counted_none (y ∷ xs) none =
      let rest = counted_none xs (λ x i. none x (inr i)) in
      elim (cases_Bool (test y)) [
        | inl t ↦ absurd (none y (inl refl) t)
        | inr f ↦ let uncounted : one y ≡ 0 = cond-false _ 1 0 f in omega (arith, sum_by-cons one y xs, rest)
      ]

nothing_ahead : (T : List Change) (c : Change) → ahead T c ≡ 0 → GoesFirst T c
nothing_ahead T c e d i n = none_counted (λ x. is_among x.name c.needs) T e d i ((decides_among d.name c.needs).1 n)

first_has_none_ahead : (T : List Change) (c : Change) → GoesFirst T c → ahead T c ≡ 0
first_has_none_ahead T c f = counted_none (λ x. is_among x.name c.needs) T (λ d i t. f d i ((decides_among d.name c.needs).0 t))

-- of distinct changes one has its name
kept_none : (T : List Change) (n : ℕ) → ((d : Change) → In d T → d.name ≡ n → ⊥) → filter (λ d. eqb d.name n) T ≡ []
kept_none [] n none = refl
kept_none (x ∷ T) n none = cond-false _ _ _ (ne_eqb _ _ (none x (inl refl))) ∙ kept_none T n (λ d i. none d (inr i))

kept_itself : (T : List Change) → Distinct T → (c : Change) → In c T → filter (λ d. eqb d.name c.name) T ≡ c ∷ []
kept_itself [] k c i = absurd i
kept_itself (x ∷ T) (new, k) c (inl e) =
    cond-true _ _ _ (eq-eqb _ _ (ap (λ y. y.name) (sym e)))
    ∙ ap (λ xs. x ∷ xs) (kept_none T c.name (λ d i n. new (d, i, n ∙ ap (λ y. y.name) e))) ∙ ap (λ y. y ∷ []) (sym e)
kept_itself (x ∷ T) (new, k) c (inr i) = cond-false _ _ _ (ne_eqb _ _ (λ n. new (c, i, sym n))) ∙ kept_itself T k c i

module _ (T : List Change) (distinct : Distinct T) where
  first_in : (c : Change) → In c T → ahead T c ≡ 0 → In c (filter (goes_first T) T)
  first_in c i e = kept_has (goes_first T) T c i ((goes_first_lem T c).1 (nothing_ahead T c e))

  in_first : (c : Change) → In c (filter (goes_first T) T) → In c T × (ahead T c ≡ 0)
  in_first c i = let (j, t) = kept_from (goes_first T) T c i in (j, first_has_none_ahead T c ((goes_first_lem T c).0 t))

  -- the walk goes on with what is lowest
  walk_by : (o : Option Change) → lowest (filter (goes_first T) T) ≡ o → (n : ℕ) → length T ≡ suc n → walk_all T ≡ go_on (walk n) T o
  walk_by o e n l = ap (λ m. walk m T) l ∙ ap (go_on (walk n) T) e

  pub counts_next : (c : Change) → In c T → ahead T c ≡ 0 → ((d : Change) → In d T → ahead T d ≡ 0 → c.name ≤ d.name) → walk_all T ≡ c ∷ walk_all (without c.name T)
  counts_next c i e low = go (lowest (filter (goes_first T) T)) refl (lowest_is (filter (goes_first T) T)) (length T) refl
    where
      less : length (without c.name T) < length T
      less = length_kept_less (λ d. not (eqb d.name c.name)) T c i (not_from_true _ (eq-eqb c.name c.name refl))

      go : (o : Option Change) → lowest (filter (goes_first T) T) ≡ o → IsLowest (filter (goes_first T) T) o → (m : ℕ) → length T ≡ m → walk_all T ≡ c ∷ walk_all (without c.name T)
      go None f none m l = absurd (none c (first_in c i e))
      go (Some d) f (j, least) zero l = absurd (omega (arith, less))
      go (Some d) f (j, least) (suc n) l =
          let (k, z) = in_first d j in
          let same : d ≡ c = distinct_one T distinct d c k i (omega (arith, low d k z, least c (first_in c i e))) in
          walk_by (Some c) (f ∙ ap Some same) n l ∙ ap (λ cs. c ∷ cs) (walk_enough n (length (without c.name T)) (without c.name T) (omega (arith, less)) (omega arith))

  pub counts_over : ((c : Change) → In c T → ahead T c ≡ 0 → ⊥) → walk_all T ≡ []
  counts_over none = go (lowest (filter (goes_first T) T)) refl (lowest_is (filter (goes_first T) T)) (length T) refl
    where
      go : (o : Option Change) → lowest (filter (goes_first T) T) ≡ o → IsLowest (filter (goes_first T) T) o → (m : ℕ) → length T ≡ m → walk_all T ≡ []
      go None f empty zero l = ap (λ m. walk m T) l
      go None f empty (suc n) l = walk_by None f n l
      go (Some d) f (j, least) m l = let (k, z) = in_first d j in absurd (none d k z)

  pub counts_fall : (c : Change) → In c T → (d : Change) → ahead T d ≡ ahead (without c.name T) d + cond (is_among c.name d.needs) 1 0
  counts_fall c i d =
      let f : Change → ℕ = λ x. cond (is_among x.name d.needs) 1 0 in
      let both = sum_by-filter_both (λ x. eqb x.name c.name) (λ x. not (eqb x.name c.name)) (λ x. refl) f T in
      let alone = ap (count_by (λ x. is_among x.name d.needs)) (kept_itself T distinct c i) in
      omega (arith, both, alone, sum_by-cons f c [])

pub counts_tell : CountsTell
counts_tell T distinct = record { next = counts_next T distinct; over = counts_over T distinct; falls = counts_fall T distinct }
