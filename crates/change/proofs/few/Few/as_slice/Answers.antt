use Rattle.std.proofs.Common.{◌≡◌, ℕ, ◌-◌, min, List, length, take, sym, ap, ◌∙◌, ⊎_elim, arith, take_all}
use Rattle.std.proofs.str.Laws.{order}
use Rattle.change.proofs.few.Few.as_slice.Goals as goal

take_at_most : {X : Type 0} (n m : ℕ) (xs : List X) → m ≡ min n (length xs) → take (m - 0) xs ≡ take n xs
take_at_most n m xs e =
    ⊎_elim (λ less. ap (λ k. take k xs) (omega arith)) (λ more. take_all (m - 0) xs (omega arith) ∙ sym (take_all n xs (omega arith))) (order n (length xs))

pub returns : goal.returns
returns g c = take_at_most c.args.self.now.count _ _ c.min-count.ensures
