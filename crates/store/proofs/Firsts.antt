-- The first entry that has a name, by the names alone.
-- Assumes nothing.
use Rattle.std.proofs.Common.{◌≡◌, ℕ, ◌<◌, Bool, eqb, ltb, List, map, length, get_or, Some, None, sym, ap, ◌∙◌, subst, inl, inr, arith, refl, eqb-true, eq-eqb, le-ltb, lt-ltb}
use Rattle.std.specs.List.{position, position_or_len}
use Rattle.std.proofs.lemmas.List.{get_or-map, length-map}
use Rattle.std.proofs.lemmas.List.Quantifiers.{position-Some}
use Rattle.std.proofs.lemmas.List.Sums.{fails_before_first}
use Rattle.std.proofs.lemmas.Bool.{both_ways, cases_lt, cond-true, cond-false}
use Rattle.store.specs.declared.entry.Entry.{Entry}
use Rattle.store.specs.Entries.{entry_of}
use Rattle.store.specs.First.{FirstAt}
use Rattle.store.proofs.Places.{blank}

module _ (es : List Entry) (x : ℕ) where
  abbrev has : Entry → Bool
  has e = eqb e.name.0 x

  abbrev first : ℕ
  first = position_or_len has es

  name_at : (i : ℕ) → i < length es → get_or (map (λ e. e.name.0) es) i 0 ≡ (get_or es i (entry_of 0 blank)).name.0
  name_at i less = get_or-map (λ e. e.name.0) es i (entry_of 0 blank) 0 less

  other_before : (k : ℕ) → k < length es → k < first → get_or (map (λ e. e.name.0) es) k 0 ≡ x → ⊥
  other_before k less before same = both_ways _ (fails_before_first has es k (entry_of 0 blank) before) (ap (λ n. eqb n x) (sym (name_at k less) ∙ same) ∙ eq-eqb x x refl)

  pub first_at : FirstAt (map (λ e. e.name.0) es) x (position has es)
  first_at =
      elim (cases_lt first (length es)) [
        | inl less ↦
            let found = cond-true (ltb first (length es)) (Some first) None (lt-ltb first (length es) less) in
            let is = position-Some has es first (entry_of 0 blank) found in
            subst (FirstAt (map (λ e. e.name.0) es) x) (sym found)
            (omega (arith, length-map es (λ e. e.name.0)), name_at first less ∙ eqb-true _ x is.1, λ k before. other_before k (omega arith) before)
        | inr past ↦
            subst (FirstAt (map (λ e. e.name.0) es) x) (sym (cond-false (ltb first (length es)) (Some first) None (le-ltb first (length es) past)))
            (λ k less. let within : k < length es = omega (arith, length-map es (λ e. e.name.0)) in other_before k within (omega arith))
      ]
