-- The end of a block, one line further: the block reaches as far as the line, and from there as far as the others.
use Rattle.std.proofs.Common.{◌≡◌, ℕ, ◌+◌, ◌-◌, ◌<◌, ◌≤◌, max, Bool, true, List, sym, subst, ⊎_elim, arith}
use Rattle.std.proofs.lemmas.Bool.{both_ways, cases_eq, cases_lt}
use Rattle.sheet.specs.declared.line.LineAt.{LineAt}
use Rattle.sheet.specs.Ends.{slot_at, Above, Reach, BlockEnd}

module _ (R : ℕ → ℕ → Bool) (ls : List LineAt) (i end far r : ℕ) (less : i < end) (reach : Reach R ls i far) (rest : BlockEnd R ls (i + 1) (max end far) r) where
  pub one_more_joined : BlockEnd R ls i end r
  one_more_joined = record { past = omega (arith, rest.past); within = rest.within; above = above; least = least }
    where
      above : Above R ls i r
      above k j a b d h =
          ⊎_elim (λ e. subst (λ m. R (slot_at ls m) (slot_at ls j) ≡ true) (sym e) (reach.above j (omega (arith, rest.past)) h)) (λ ne. rest.above k j (omega arith) b d h) (cases_eq k i)

      least : (e : ℕ) → end ≤ e → e < r → Above R ls i e → ⊥
      least e a b whole =
          ⊎_elim
          (λ short. both_ways _ (reach.last (omega arith)) (whole i (far - 1) (omega arith) (omega arith) (omega arith) (omega (arith, reach.within, reach.past))))
          (λ beyond. rest.least e (omega arith) b (λ k j c. whole k j (omega arith)))
          (cases_lt e far)
