-- That the tests of its adds tell whether they fit, one after the other.
-- Assumes nothing.
use Rattle.std.proofs.Common.{◌≡◌, ℕ, suc, ◌+◌, ◌≤◌, Bool, true, eqb, List, [], ◌∷◌, length, Decides, refl, arith}
use Rattle.std.proofs.lemmas.Bool.{and_parts, and_from}
use Rattle.std.proofs.lemmas.Bool.Decides.{Decides-eqb, Decides-ltb, Decides-or}
use Rattle.change.specs.Model.{Add, Change}
use Rattle.order.specs.Order.{Put, puts_from}
use Rattle.order.specs.Table.{bef}
use Rattle.order.specs.Fits.{FromNeeds, Named, PutsFit}
use Rattle.order.proofs.Deciding.{decides_some}
use Rattle.order.proofs.Precedes.{precedes_more}
use Rattle.order.proofs.Steps.{bef_stands}
use Rattle.order.proofs.Table.{stands_bef}
use Rattle.order.proofs.Placed.{Ready, ready_more}
use Rattle.verdict.specs.Verdict.{is_named, all_named, all_ordered}

module _ (L : List Change) (c : Change) (from : ℕ → Bool) (tells : (u : ℕ) → Decides (from u) (FromNeeds L c u)) (m : ℕ) where
  decides_named : (earlier : List Put) (u : ℕ) → Decides (is_named from earlier u) (Named L c earlier u)
  decides_named earlier u = Decides-or _ _ (Decides-ltb u 2) (Decides-or _ _ (decides_some (λ p. eqb p.line u) (λ p. p.line ≡ u) (λ p. Decides-eqb p.line u) earlier) (tells u))

  pub puts_fit_by_tests :
      (n : ℕ) (adds : List Add) (earlier Q : List Put) → n + length adds ≤ m → Ready L earlier Q n m →
      all_named from earlier (puts_from n adds) ≡ true → all_ordered (bef Q) (puts_from n adds) ≡ true → PutsFit L c earlier (puts_from n adds)
  puts_fit_by_tests n [] earlier Q high r named ordered = tt
  puts_fit_by_tests n (a ∷ adds) earlier Q high r named ordered =
      let (after, rest) = and_parts _ _ named in
      let (before, more) = and_parts _ _ rest in
      let (here, on) = and_parts _ _ ordered in
      let p : Put = record { line = n; after = a.after; before = a.before } in
      let way = precedes_more r.from _ _ (bef_stands Q _ _ here) in (
        (decides_named earlier a.after).0 after,
        (decides_named earlier a.before).0 before,
        way,
        puts_fit_by_tests (suc n) adds (p ∷ earlier) (p ∷ Q) (omega arith) (ready_more L m earlier Q p (omega arith) way r) more on,
      )

  pub tests_where_puts_fit :
      (n : ℕ) (adds : List Add) (earlier Q : List Put) → n + length adds ≤ m → Ready L earlier Q n m → PutsFit L c earlier (puts_from n adds) →
      (all_named from earlier (puts_from n adds) ≡ true) × (all_ordered (bef Q) (puts_from n adds) ≡ true)
  tests_where_puts_fit n [] earlier Q high r fit = (refl, refl)
  tests_where_puts_fit n (a ∷ adds) earlier Q high r (after, before, way, fit) =
      let p : Put = record { line = n; after = a.after; before = a.before } in
      let (more, on) = tests_where_puts_fit (suc n) adds (p ∷ earlier) (p ∷ Q) (omega arith) (ready_more L m earlier Q p (omega arith) way r) fit in (
        and_from _ _ ((decides_named earlier a.after).1 after) (and_from _ _ ((decides_named earlier a.before).1 before) more),
        and_from _ _ (stands_bef Q r.good _ _ (precedes_more r.has _ _ way)) on,
      )
