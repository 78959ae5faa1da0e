-- The walk through lines is the one by which their blocks are found.
use Rattle.std.proofs.Common.{◌≡◌, ℕ, zero, suc, ◌+◌, ◌≤◌, Bool, true, false, cond, not, ◌&&◌, eqb, List, [], ◌∷◌, length, get_or, sym, refl, ap, ◌∙◌, subst, inl, inr, arith}
use Rattle.std.specs.List.{remove, All}
use Rattle.std.proofs.lemmas.List.{get_or-map, length-map}
use Rattle.std.proofs.lemmas.List.Edits.{length-remove}
use Rattle.std.proofs.lemmas.List.Sums.{sum_by-cons}
use Rattle.std.proofs.lemmas.Bool.{eq-eqb, eqb-true}
use Rattle.std.proofs.lemmas.Bool.Decides.{nat_tests}
use Rattle.change.specs.Membership.{In}
use Rattle.order.proofs.Members.{in_mapped, mapped_in, in_get_or, in_at}
use Rattle.walks.specs.Walk.{ahead_of, IsWalk}
use Rattle.walks.proofs.Removed.{map_removed}
use Rattle.blocks.specs.Function.{free, walk, without}
use Rattle.sheet.specs.declared.line.LineAt.{LineAt}
use Rattle.sheet.specs.Lines.{numbers, Distinct, Orders}
use Rattle.sheet.proofs.Removed.{in_removed, without_at, distinct_removed}
use Rattle.sheet.proofs.Steps.{goes_to_lowest, ends_where_none_is_free}

abbrev pub by_slot : (ℕ → ℕ → Bool) → LineAt → LineAt → Bool
by_slot R one other = R one.slot other.slot

abbrev pub by_number : LineAt → ℕ
by_number line = line.number.0

-- a line is free where none of the others stands before it
pub free_is_none_ahead : (R before : ℕ → ℕ → Bool) (a : LineAt) (ls : List LineAt) → ((b : LineAt) → In b ls → before b.number.0 a.number.0 ≡ R b.slot a.slot) → free before (numbers ls) a.number.0 ≡ eqb (ahead_of (by_slot R) ls a) 0
free_is_none_ahead R before a [] same = refl
free_is_none_ahead R before a (b ∷ ls) same =
    let rest = free_is_none_ahead R before a ls (λ c i. same c (inr i)) in
    ap (λ t. not t && free before (numbers ls) a.number.0) (same b (inl refl)) ∙ step (R b.slot a.slot) (free before (numbers ls) a.number.0) (ahead_of (by_slot R) ls a) rest
    ∙ ap (λ n. eqb n 0) (sym (sum_by-cons (λ c. cond (R c.slot a.slot) 1 0) b ls))
  where
    step : (t f : Bool) (n : ℕ) → f ≡ eqb n 0 → not t && f ≡ eqb (cond t 1 0 + n) 0
    step true f n e = grind (arith, nat_tests)
    step false f n e = e ∙ ap (λ m. eqb m 0) (omega arith)

module _ (R before : ℕ → ℕ → Bool) where
  walk_ends : (ls : List LineAt) → Orders R ls before → All (λ a. ahead_of (by_slot R) ls a ≡ 0 → ⊥) ls → (n : ℕ) → walk before n (numbers ls) ≡ []
  walk_ends ls orders none zero = refl
  walk_ends ls orders none (suc n) =
      ends_where_none_is_free before (walk before n) (numbers ls) (λ v i f.
      let (a, j, e) = in_mapped by_number v ls i in
      let (k, h, g) = in_at a a ls j in
      subst (λ b. ahead_of (by_slot R) ls b ≡ 0 → ⊥) g (none k a h)
      (eqb-true _ 0 (sym (free_is_none_ahead R before a ls (λ b m. orders b a m j)) ∙ ap (free before (numbers ls)) (sym e) ∙ f)))

  pub walked_is_walk : (ws ls : List LineAt) → IsWalk (by_slot R) by_number ls ws → Distinct (numbers ls) → Orders R ls before → numbers ws ≡ walk before (length ls) (numbers ls)
  walked_is_walk [] ls none apart orders = sym (walk_ends ls orders none (length ls))
  walked_is_walk (w ∷ ws) ls (k, next, walks) apart orders =
      let rest = remove ls k in
      let shorter = length-remove ls k next.within in
      let fits : length ls ≡ suc (length rest) = omega arith in
      let in_w = subst (λ a. In a ls) (sym next.there) (in_get_or ls k w next.within) in
      let free_at = λ (a : LineAt) (i : In a ls). free_is_none_ahead R before a ls (λ b j. orders b a j i) in
      let here : get_or (numbers ls) k 0 ≡ w.number.0 = get_or-map by_number ls k w 0 next.within ∙ ap by_number (sym next.there) in
      let gone : without w.number.0 (numbers ls) ≡ numbers rest =
      ap (λ v. without v (numbers ls)) (sym here) ∙ without_at (numbers ls) k apart (omega (arith, length-map ls by_number, next.within)) ∙ sym (map_removed by_number ls k) in
      ap (λ us. w.number.0 ∷ us)
      (walked_is_walk ws rest walks (subst Distinct (sym (map_removed by_number ls k)) (distinct_removed (numbers ls) k apart)) (λ a b i j. orders a b (in_removed a ls k i) (in_removed b ls k j)))
      ∙ (λ z. w.number.0 ∷ walk before (length rest) (sym gone z))
      ∙ sym (goes_to_lowest before (walk before (length rest)) (numbers ls) w.number.0 (mapped_in by_number w ls in_w) (free_at w in_w ∙ eq-eqb _ 0 next.free)
      (λ v i f.
      let (a, j, e) = in_mapped by_number v ls i in
      let (m, h, g) = in_at a a ls j in
      let zero_ahead = eqb-true _ 0 (sym (free_at a j) ∙ ap (free before (numbers ls)) (sym e) ∙ f) in
      let low = subst (λ b. ahead_of (by_slot R) ls b ≡ 0 → w.number.0 ≤ b.number.0) g (next.lowest m a h) zero_ahead in
      omega arith))
      ∙ ap (λ n. walk before n (numbers ls)) (sym fits)
