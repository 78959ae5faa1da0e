-- A list in rising order, whose members are all in another, is no longer than that: so sorted numbers are few.
-- Assumes nothing.
use Rattle.std.proofs.Common.{◌≡◌, ℕ, suc, ◌≤◌, true, not, eqb, List, [], ◌∷◌, length, refl, inl, inr, arith}
use Rattle.std.proofs.lemmas.Bool.{and_parts, leb-true, eq-eqb, ne_eqb, not_from_true, not_from_false}
use Rattle.change.specs.Membership.{In, Within}
use Rattle.change.specs.WellFormed.{rising}
use Rattle.order.proofs.Members.{kept_has}
use Rattle.history.proofs.Names.{length_kept_less}
use Rattle.making.specs.Sorted.{sorted}
use Rattle.making.proofs.Sorted.{sorted_members, sorted_rises}
use Rattle.blocks.specs.Function.{without}

module _ (high : ℕ) where
  rising_least : (low : ℕ) (ns : List ℕ) → rising low high ns ≡ true → (n : ℕ) → In n ns → low ≤ n
  rising_least low [] h n i = absurd i
  rising_least low (m ∷ ms) h n (inl e) = omega (arith, leb-true low m (and_parts _ _ (and_parts _ _ h).0).0)
  rising_least low (m ∷ ms) h n (inr i) = omega (arith, leb-true low m (and_parts _ _ (and_parts _ _ h).0).0, rising_least (suc m) ms (and_parts _ _ h).1 n i)

  rising_few : (low : ℕ) (ns ms : List ℕ) → rising low high ns ≡ true → Within ns ms → length ns ≤ length ms
  rising_few low [] ms h w = omega arith
  rising_few low (n ∷ ns) ms h w =
      let more : rising (suc n) high ns ≡ true = (and_parts _ _ h).1 in
      let rest : length ns ≤ length (without n ms) = rising_few (suc n) ns (without n ms) more (λ x i. kept_has _ ms x (w x (inr i)) (not_from_false _ (ne_eqb x n (λ e. omega (arith, rising_least (suc n) ns more x i))))) in
      omega (arith, rest, length_kept_less (λ x. not (eqb x n)) ms n (w n (inl refl)) (not_from_true _ (eq-eqb n n refl)))

  pub sorted_few : (ns ms : List ℕ) → ((n : ℕ) → In n ns → (n ≤ high) × In n ms) → length (sorted ns) ≤ length ms
  sorted_few ns ms h =
      rising_few 0 (sorted ns) ms (sorted_rises high 0 ns (λ n i. (omega arith, (h n i).0))) (λ n i. (h n ((sorted_members ns).0 n i)).1)
