-- What the tests of a request mean: that all lines which it names are known, and of its sheet.
-- Earlier B k earlier: the lines of the puts `earlier` are the first k of the change that is made.
-- Assumes nothing.
use Rattle.std.proofs.Common.{◌≡◌, ℕ, suc, ◌≤◌, not, eqb, ◌↔◌, List, [], ◌∷◌, Decides, refl, ap, inl, inr, arith}
use Rattle.std.proofs.lemmas.Bool.{cases_eq, eqb-true, eq-eqb}
use Rattle.std.proofs.lemmas.Bool.Decides.{Decides-eqb, Decides-ltb, Decides-or, Decides-and, Decides-not, Decides-like}
use Rattle.change.specs.Membership.{In}
use Rattle.change.specs.Model.{Add, Change, line_of}
use Rattle.order.specs.Order.{Put, puts_from}
use Rattle.order.proofs.Deciding.{decides_some, decides_every}
use Rattle.verdict.specs.Verdict.{is_named, all_named}
use Rattle.history.specs.Book.{Book, next_name}
use Rattle.history.specs.Sane.{Sane}
use Rattle.making.specs.Request.{Request, named_lines}
use Rattle.making.specs.Making.{is_edge, is_of_sheet, keeps_to_sheet, is_here, all_known}
use Rattle.making.specs.Known.{OneOf, Adds, InBook, KnownTo, AddsKnown, AllKnown, OnSheet}
use Rattle.making.specs.Theorems.{MissingIsUnknown, UnrelatedIsOffSheet}
use Rattle.making.proofs.Tests.{decides_each, decides_follows}
use Rattle.making.proofs.InBook.{decides_adds_here, decides_in_book}

abbrev Earlier : Book → ℕ → List Put → Type 0
Earlier B k earlier = (u : ℕ) → ((p : Put) × In p earlier × (p.line ≡ u)) ↔ OneOf (next_name B) k u

earlier_more : (B : Book) (k : ℕ) (earlier : List Put) (p : Put) → p.line ≡ line_of (next_name B) k → Earlier B k earlier → Earlier B (suc k) (p ∷ earlier)
earlier_more B k earlier p at e u = (to, from)
  where
    to : (q : Put) × In q (p ∷ earlier) × (q.line ≡ u) → OneOf (next_name B) (suc k) u
    to (q, inl f, g) = (k, omega arith, omega (arith, ap (λ x. x.line) f))
    to (q, inr i, g) = let (j, h, f) = (e u).0 (q, i, g) in (j, omega arith, f)

    from : OneOf (next_name B) (suc k) u → (q : Put) × In q (p ∷ earlier) × (q.line ≡ u)
    from (j, h, f) = elim (cases_eq j k) [
      | inl same ↦ (p, inl refl, omega arith)
      | inr other ↦ (let (q, i, g) = (e u).1 (j, omega arith, f) in (q, inr i, g))
    ]

module _ (B : Book) (s : Sane B) where
  decides_known_to : (k : ℕ) (earlier : List Put) → Earlier B k earlier → (u : ℕ) → Decides (is_named (is_here B) earlier u) (KnownTo B k u)
  decides_known_to k earlier e u =
      Decides-or _ _ (Decides-ltb u 2)
      (Decides-or _ _ (Decides-like _ (e u).0 (e u).1 (decides_some (λ p. eqb p.line u) (λ p. p.line ≡ u) (λ p. Decides-eqb p.line u) earlier)) (decides_in_book B s u))

  decides_adds_known : (n k : ℕ) (adds : List Add) (earlier : List Put) → n ≡ line_of (next_name B) k → Earlier B k earlier →
      Decides (all_named (is_here B) earlier (puts_from n adds)) (AddsKnown B k adds)
  decides_adds_known n k [] earlier at e = (λ _. tt, λ _. refl)
  decides_adds_known n k (a ∷ adds) earlier at e =
      let p : Put = record { line = n; after = a.after; before = a.before } in
      Decides-like _ (λ (x, (y, z)). (x, y, z)) (λ (x, y, z). (x, (y, z)))
      (Decides-and _ _ (decides_known_to k earlier e a.after)
      (Decides-and _ _ (decides_known_to k earlier e a.before) (decides_adds_known (suc n) (suc k) adds (p ∷ earlier) (omega arith) (earlier_more B k earlier p at e))))

  decides_all_known : (r : Request) → Decides (all_known B r) (AllKnown B r)
  decides_all_known r =
      Decides-and _ _ (decides_adds_known _ 0 r.adds [] refl (λ u. (λ (p, i, e). absurd i, λ (j, h, e). absurd (omega arith))))
      (decides_every (is_here B) (InBook B) (decides_in_book B s) r.kills)

  pub decides_on_sheet : (r : Request) → Decides (keeps_to_sheet B r) (OnSheet B r)
  decides_on_sheet r =
      Decides-and _ _ (decides_every (is_of_sheet B r.sheet) OfSheet of_sheet (named_lines r))
      (decides_every (λ u. not (is_edge u)) (λ u. 2 ≤ u) (λ u. Decides-like _ (λ h. omega arith) (λ high h. omega arith) (Decides-not _ (Decides-ltb u 2))) r.kills)
    where
      OfSheet : ℕ → Type 0
      OfSheet u = (d : Change) → In d B.changes → Adds d u → d.sheet ≡ r.sheet

      of_sheet : (u : ℕ) → Decides (is_of_sheet B r.sheet u) (OfSheet u)
      of_sheet u =
          Decides-like _ (λ h d i a. eqb-true _ _ ((decides_follows _ _).0 (h d i) ((decides_adds_here B s d i u).1 a)))
          (λ h d i. (decides_follows _ _).1 (λ t. eq-eqb _ _ (h d i ((decides_adds_here B s d i u).0 t)))) (decides_each _ B.changes)

pub missing_is_unknown : MissingIsUnknown
missing_is_unknown B s r = Decides-not _ (decides_all_known B s r)

pub unrelated_is_off_sheet : UnrelatedIsOffSheet
unrelated_is_off_sheet B s r = Decides-not _ (decides_on_sheet B s r)
