-- A list without what stood at one place, and numbers that are distinct.
use Rattle.std.proofs.Common.{◌≡◌, ℕ, zero, suc, ◌<◌, cond, not, List, [], ◌∷◌, length, get_or, sym, refl, ap, ◌∙◌, subst, inl, inr, arith}
use Rattle.std.specs.List.{remove}
use Rattle.std.proofs.lemmas.Bool.{eq-eqb, ne_eqb}
use Rattle.change.specs.Membership.{In}
use Rattle.order.proofs.Members.{in_get_or}
use Rattle.blocks.specs.Function.{without}
use Rattle.sheet.specs.Lines.{Distinct}

pub in_removed : {X : Type 0} (x : X) (xs : List X) (k : ℕ) → In x (remove xs k) → In x xs
in_removed x [] zero i = i
in_removed x [] (suc k) i = i
in_removed x (y ∷ xs) zero i = inr i
in_removed x (y ∷ xs) (suc k) (inl e) = inl e
in_removed x (y ∷ xs) (suc k) (inr i) = inr (in_removed x xs k i)

without_absent : (u : ℕ) (us : List ℕ) → (In u us → ⊥) → without u us ≡ us
without_absent u [] absent = refl
without_absent u (v ∷ us) absent =
    ap (λ b. cond (not b) (v ∷ without u us) (without u us)) (ne_eqb v u (λ e. absent (inl (sym e)))) ∙ ap (λ vs. v ∷ vs) (without_absent u us (λ i. absent (inr i)))

pub without_at : (us : List ℕ) (k : ℕ) → Distinct us → k < length us → without (get_or us k 0) us ≡ remove us k
without_at [] k apart h = absurd (omega arith)
without_at (u ∷ us) zero apart h = ap (λ b. cond (not b) (u ∷ without u us) (without u us)) (eq-eqb u u refl) ∙ without_absent u us apart.0
without_at (u ∷ us) (suc k) apart h =
    let m = get_or us k 0 in
    let other = ne_eqb u m (λ e. apart.0 (subst (λ x. In x us) (sym e) (in_get_or us k 0 (omega arith)))) in
    ap (λ b. cond (not b) (u ∷ without m us) (without m us)) other ∙ ap (λ vs. u ∷ vs) (without_at us k apart.1 (omega arith))

pub distinct_removed : (us : List ℕ) (k : ℕ) → Distinct us → Distinct (remove us k)
distinct_removed [] zero apart = tt
distinct_removed [] (suc k) apart = tt
distinct_removed (u ∷ us) zero apart = apart.1
distinct_removed (u ∷ us) (suc k) apart = (λ i. apart.0 (in_removed u us k i), distinct_removed us k apart.1)
