-- The adds of a request one after the other, where all lines that they name are known.
-- Own name ps: the lines of ps are those of the change of this name.
-- Assumes nothing.
use Rattle.std.proofs.Common.{◌≡◌, ℕ, suc, ◌≤◌, Bool, true, ◌&&◌, eqb, ltb, List, [], ◌∷◌, sym, refl, ap, ◌∙◌, inl, inr, arith}
use Rattle.std.proofs.lemmas.Bool.{and_parts, and_from, or_cases, ltb-true}
use Rattle.std.proofs.lemmas.Bool.Decides.{Decides-eqb}
use Rattle.change.specs.Membership.{In}
use Rattle.change.specs.Model.{Add, bringer}
use Rattle.std.specs.List.{list_any}
use Rattle.order.specs.Order.{Put, puts_from}
use Rattle.order.specs.Table.{step}
use Rattle.order.proofs.Deciding.{decides_some}
use Rattle.verdict.specs.Verdict.{is_named, all_named, all_ordered}
use Rattle.making.specs.Request.{add_lines}
use Rattle.making.specs.Making.{known_ordered}
use Rattle.making.proofs.Tests.{decides_follows, or_more}

abbrev Own : ℕ → List Put → Type 0
Own name ps = (p : Put) → In p ps → bringer p.line ≡ name

module _ (from : ℕ → Bool) where
  named_parts :
      (earlier : List Put) (p : Put) (ps : List Put) → all_named from earlier (p ∷ ps) ≡ true →
      (is_named from earlier p.after ≡ true) × (is_named from earlier p.before ≡ true) × (all_named from (p ∷ earlier) ps ≡ true)
  named_parts earlier p ps h =
      let (after, rest) = and_parts (is_named from earlier p.after) _ h in
      let (before, more) = and_parts (is_named from earlier p.before) _ rest in
      (after, before, more)

  -- the lines that they name may come from elsewhere in another way
  module _ (from' : ℕ → Bool) where
    is_named_otherwise : (earlier : List Put) (u : ℕ) → (from u ≡ true → from' u ≡ true) → is_named from earlier u ≡ true → is_named from' earlier u ≡ true
    is_named_otherwise earlier u f = or_more (ltb u 2) _ _ (or_more (list_any (λ p. eqb p.line u) earlier) _ _ f)

    pub named_otherwise :
        (n : ℕ) (adds : List Add) (earlier : List Put) → ((u : ℕ) → In u (add_lines adds) → from u ≡ true → from' u ≡ true) →
        all_named from earlier (puts_from n adds) ≡ true → all_named from' earlier (puts_from n adds) ≡ true
    named_otherwise n [] earlier f h = refl
    named_otherwise n (a ∷ adds) earlier f h =
        let p : Put = record { line = n; after = a.after; before = a.before } in
        let (after, before, more) = named_parts earlier p (puts_from (suc n) adds) h in
        and_from _ _ (is_named_otherwise earlier a.after (f a.after (inl refl)) after)
        (and_from _ _ (is_named_otherwise earlier a.before (f a.before (inr (inl refl))) before)
        (named_otherwise (suc n) adds (p ∷ earlier) (λ u i. f u (inr (inr i))) more))

  -- they are in order exactly if they are so as far as their lines are known
  pub known_ordered_lem :
      (R : ℕ → ℕ → Bool) (earlier ps : List Put) → all_named from earlier ps ≡ true → known_ordered from R earlier ps ≡ true → all_ordered R ps ≡ true
  known_ordered_lem R earlier [] named ordered = refl
  known_ordered_lem R earlier (p ∷ ps) named ordered =
      let (after, before, more) = named_parts earlier p ps named in
      let (here, on) = and_parts _ _ ordered in
      and_from _ _ ((decides_follows _ _).0 here (and_from _ _ after before)) (known_ordered_lem (step R p) (p ∷ earlier) ps more on)

  pub ordered_known : (R : ℕ → ℕ → Bool) (earlier ps : List Put) → all_ordered R ps ≡ true → known_ordered from R earlier ps ≡ true
  ordered_known R earlier [] ordered = refl
  ordered_known R earlier (p ∷ ps) ordered =
      let (here, on) = and_parts _ _ ordered in
      and_from _ _ ((decides_follows (is_named from earlier p.after && is_named from earlier p.before) _).1 (λ _. here)) (ordered_known (step R p) (p ∷ earlier) ps on)

  -- a line that they name and that is neither an edge nor their own comes from elsewhere
  module _ (name u : ℕ) (high : 2 ≤ u) (other : bringer u ≡ name → ⊥) where
    from_elsewhere : (earlier : List Put) → Own name earlier → is_named from earlier u ≡ true → from u ≡ true
    from_elsewhere earlier own h = elim (or_cases (ltb u 2) _ h) [
      | inl edge ↦ absurd (omega (arith, ltb-true u 2 edge))
      | inr rest ↦ elim (or_cases (list_any (λ p. eqb p.line u) earlier) (from u) rest) [
        | inl mine ↦ (let (p, i, e) = (decides_some (λ p. eqb p.line u) (λ p. p.line ≡ u) (λ p. Decides-eqb p.line u) earlier).0 mine in absurd (other (sym (ap bringer e) ∙ own p i)))
        | inr t ↦ t
      ]
    ]

    pub all_from_elsewhere :
        (n : ℕ) (adds : List Add) (earlier : List Put) → Own name earlier → Own name (puts_from n adds) →
        all_named from earlier (puts_from n adds) ≡ true → In u (add_lines adds) → from u ≡ true
    all_from_elsewhere n [] earlier own mine h i = absurd i
    all_from_elsewhere n (a ∷ adds) earlier own mine h i =
        let p : Put = record { line = n; after = a.after; before = a.before } in
        let (after, before, more) = named_parts earlier p (puts_from (suc n) adds) h in
        elim i [
          | inl e ↦ from_elsewhere earlier own (rw e after)
          | inr (inl e) ↦ from_elsewhere earlier own (rw e before)
          | inr (inr j) ↦ all_from_elsewhere (suc n) adds (p ∷ earlier) (λ q k. elim k [ inl e ↦ mine q (inl e) | inr l ↦ own q l ]) (λ q k. mine q (inr k)) more j
        ]
