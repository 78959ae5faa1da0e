-- Changes known by their names: what is left of a list of distinct ones, and what a change lacks.
-- Assumes nothing.
use Rattle.std.proofs.Common.{◌≡◌, ℕ, ◌<◌, ◌≤◌, Bool, true, false, cond, not, ◌&&◌, ◌||◌, List, [], ◌∷◌, ◌++◌, length, Decides, filter, sym, refl, ap, ◌∙◌, inl, inr, arith}
use Rattle.std.proofs.lemmas.List.Filters.{length-filter_both}
use Rattle.std.proofs.lemmas.Bool.{both_ways, eq-eqb, not_from_true, not_from_false}
use Rattle.std.proofs.lemmas.Bool.Decides.{Decides-not, Decides-at}
use Rattle.std.specs.List.{list_all, list_any}
use Rattle.change.specs.Membership.{In, Within}
use Rattle.change.specs.Model.{Change}
use Rattle.order.specs.Names.{HasName, has_name}
use Rattle.order.specs.Theorems.{without}
use Rattle.order.proofs.Members.{kept_from, kept_has, in_either}
use Rattle.order.proofs.Deciding.{decides_every, decides_some}
use Rattle.order.proofs.OneName.{has_name_lem}
use Rattle.verdict.specs.Verdict.{needs_here}
use Rattle.history.specs.Sane.{Distinct, Lacks}

pub has_name_more : (S R : List Change) → Within S R → (n : ℕ) → HasName S n → HasName R n
has_name_more S R w n (d, i, e) = (d, w d i, e)

-- those that pass a test
module _ (test : Change → Bool) where
  pub kept_within : (S : List Change) → Within (filter test S) S
  kept_within S d i = (kept_from test S d i).0

  pub distinct_kept : (S : List Change) → Distinct S → Distinct (filter test S)
  distinct_kept [] d = tt
  distinct_kept (c ∷ S) (new, d) = go (test c) (distinct_kept S d)
    where
      go : (b : Bool) → Distinct (filter test S) → Distinct (cond b (c ∷ filter test S) (filter test S))
      go true k = (λ h. new (has_name_more (filter test S) S (kept_within S) c.name h), k)
      go false k = k

pub without_none : (n : ℕ) (S : List Change) → HasName (without n S) n → ⊥
without_none n S (d, i, e) = both_ways _ (not_from_true _ (eq-eqb d.name n e)) (kept_from _ S d i).1

pub in_some : {X : Type 0} (x : X) (xs : List X) → In x xs → 0 < length xs
in_some x [] i = absurd i
in_some x (y ∷ xs) i = omega arith

pub length_kept : {X : Type 0} (test : X → Bool) (xs : List X) → length (filter test xs) ≤ length xs
length_kept test xs = omega (arith, length-filter_both test (λ x. not (test x)) (λ x. refl) xs)

-- one that fails is left out
pub length_kept_less : {X : Type 0} (test : X → Bool) (xs : List X) (x : X) → In x xs → test x ≡ false → length (filter test xs) < length xs
length_kept_less {X} test xs x i e =
    let out : X → Bool = λ y. not (test y) in
    omega (arith, length-filter_both test out (λ y. refl) xs, in_some x (filter out xs) (kept_has out xs x i (not_from_false _ e)))

-- one more behind those that are distinct
pub distinct_push : (S : List Change) (c : Change) → Distinct S → (HasName S c.name → ⊥) → Distinct (S ++ c ∷ [])
distinct_push [] c d new = (λ (x, i, e). i, tt)
distinct_push (x ∷ S) c (first, d) new = (go, distinct_push S c d (λ (y, i, e). new (y, inr i, e)))
  where
    go : HasName (S ++ c ∷ []) x.name → ⊥
    go (y, i, e) = elim (in_either S (c ∷ []) y i) [
      | inl j ↦ first (y, j, e)
      | inr (inl f) ↦ new (x, inl refl, sym e ∙ ap (λ z. z.name) f)
      | inr (inr none) ↦ none
    ]

-- of distinct changes those of one name are the same
pub distinct_one : (S : List Change) → Distinct S → (c d : Change) → In c S → In d S → c.name ≡ d.name → c ≡ d
distinct_one [] k c d i j e = absurd i
distinct_one (x ∷ S) k c d (inl a) (inl b) e = a ∙ sym b
distinct_one (x ∷ S) k c d (inl a) (inr j) e = absurd (k.0 (d, j, rw a at (sym e)))
distinct_one (x ∷ S) k c d (inr i) (inl b) e = absurd (k.0 (c, i, rw b at e))
distinct_one (x ∷ S) k c d (inr i) (inr j) e = distinct_one S k.1 c d i j e

pub decides_ready : (S : List Change) (c : Change) → Decides (needs_here S c) ((n : ℕ) → In n c.needs → HasName S n)
decides_ready S c = decides_every (has_name S) (HasName S) (has_name_lem S) c.needs

not_every : {X : Type 0} (test : X → Bool) (xs : List X) → not (list_all test xs) ≡ list_any (λ x. not (test x)) xs
not_every test [] = refl
not_every test (x ∷ xs) = go (test x) (not_every test xs)
  where
    go : (b : Bool) → not (list_all test xs) ≡ list_any (λ y. not (test y)) xs → not (b && list_all test xs) ≡ (not b || list_any (λ y. not (test y)) xs)
    go true e = e
    go false e = refl

pub decides_lacks : (S : List Change) (c : Change) → Decides (not (needs_here S c)) (Lacks S c)
decides_lacks S c =
    Decides-at _ _ (not_every (has_name S) c.needs)
    (decides_some (λ n. not (has_name S n)) (λ n. HasName S n → ⊥) (λ n. Decides-not _ (has_name_lem S n)) c.needs)
