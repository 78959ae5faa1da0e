-- The lowest of those that wait and are free, among all that wait, each with its place.
-- Assumes nothing.
use Rattle.std.proofs.Common.{◌≡◌, ℕ, ◌<◌, ◌≤◌, Bool, true, false, cond, eqb, List, [], ◌∷◌, map, length, get_or, filter, Some, None, Option, inl, inr, sym, refl, ap, ◌∙◌, subst, slice_get, arith, Bor, IfSome, IsSomeAnd, MatchOption}
use Rattle.std.specs.Iterator.Runs.{Run, AllItems, AnyItem}
use Rattle.std.specs.List.{All}
use Rattle.std.proofs.iter.runs.Made.{at-is}
use Rattle.std.proofs.lemmas.List.Elements.{All-nil, All-cons, All-head, All-tail, All-map, filter_passes}
use Rattle.std.proofs.lemmas.List.{length-map, get_or-map}
use Rattle.std.proofs.lemmas.Option.{slice_get-get_or, get_or_from_slice_get, slice_get_cases}
use Rattle.std.proofs.lemmas.Bool.{eq-eqb}
use Rattle.walks.specs.declared.waiting.Waiting.{Waiting}
use Rattle.walks.specs.Waiting.{NoneFree, LowestFree}

-- what holds of all that a list keeps by a test holds of its elements that pass the test
pub all_kept : {X : Type 0} (test : X → Bool) (P : X → Type 0) (xs : List X) → All P (filter test xs) → All (λ x. test x ≡ true → P x) xs
all_kept test P [] all = All-nil (λ x. test x ≡ true → P x)
all_kept {X} test P (x ∷ xs) all = go (test x) refl (all_kept test P xs) all
  where
    go : (b : Bool) → test x ≡ b → (All P (filter test xs) → All (λ y. test y ≡ true → P y) xs) → All P (cond b (x ∷ filter test xs) (filter test xs)) → All (λ y. test y ≡ true → P y) (x ∷ xs)
    go true e rest a = All-cons (λ y. test y ≡ true → P y) x xs (λ _. All-head P x (filter test xs) a) (rest (All-tail P x (filter test xs) a))
    go false e rest a = All-cons (λ y. test y ≡ true → P y) x xs (λ f. let both : true ≡ false = sym f ∙ e in cc) (rest a)

-- an item of a run is among the items of another, where it has its place as its number
module _ {A S R : Type 0} {steps : S → Option (ℕ × A) → S → Type 0} {source : R → Option (ℕ × A) → R → Type 0} (p : Run steps) (q : Run source) (m : ℕ × A) where
  is_some_of : {X : Type 0} (o : Option X) (x : X) → IsSomeAnd o (λ y. y ≡ x) → o ≡ Some x
  is_some_of (Some y) x e = ap Some e
  is_some_of None x e = absurd e

  pub stands_at : AnyItem p (λ x. x ≡ m) → AllItems p (λ x. AnyItem q (λ y. y ≡ x)) → ((k : ℕ) → IfSome (q.at k) (λ x. x.0 ≡ k)) → slice_get q.items m.0 ≡ Some m
  stands_at (k, _, here) among numbered =
      let (j, _, there) = subst (λ o. IfSome o (λ x. AnyItem q (λ y. y ≡ x))) (is_some_of (p.at k) m here) (among k) in
      let at = is_some_of (q.at j) m there in
      let number = subst (λ o. IfSome o (λ x. x.0 ≡ j)) at (numbered j) in
      ap (slice_get q.items) number ∙ sym (at-is q j) ∙ at

  -- one that was kept by a test passes it
  pub passes : (test : ℕ × A → Bool) (ys : List (ℕ × A)) → p.items ≡ filter test ys → AnyItem p (λ x. x ≡ m) → test m ≡ true
  passes test ys filtered (k, less, here) =
      let at = sym (at-is p k) ∙ is_some_of (p.at k) m here in
      ap test (sym (get_or_from_slice_get p.items k m m at)) ∙ subst (All (λ x. test x ≡ true)) (sym filtered) (filter_passes test ys) k m (omega (arith, less, p.long))

-- what holds of all items of a run holds of all of its list
pub all_of_run : {A S : Type 0} {steps : S → Option A → S → Type 0} (p : Run steps) (P Q : A → Type 0) → ((x : A) → P x → Q x) → AllItems p P → All Q p.items
all_of_run p P Q weaker all k d h = weaker _ (subst (λ o. IfSome o P) (at-is p k ∙ slice_get-get_or p.items k d h) (all k))

module _ {T : Type 0} where
  abbrev pub is_free : ℕ × Bor (Waiting T) → Bool
  is_free x = eqb x.1.now.ahead 0

module _ {T : Type 0} (rank : T → ℕ) (ws : List (Waiting T)) (xs : List (ℕ × Bor (Waiting T))) (are : map (λ x. x.1.now) xs ≡ ws) where
  of_all : (P : Waiting T → Type 0) → All (λ x. P x.1.now) (filter is_free xs) → All (λ w. w.ahead ≡ 0 → P w) ws
  of_all P all =
      subst (All (λ w. w.ahead ≡ 0 → P w)) are
      (All-map (λ w. w.ahead ≡ 0 → P w) (λ x. x.1.now) xs (λ k d h z. all_kept is_free (λ x. P x.1.now) xs all k d h (eq-eqb _ 0 z)))

  none_is_free : filter is_free xs ≡ [] → NoneFree ws
  none_is_free none = of_all (λ _. ⊥) (subst (All (λ _. ⊥)) (sym none) (All-nil (λ _. ⊥)))

  pub record Found (m : ℕ × Bor (Waiting T)) : Type 0 where
    pub at : slice_get xs m.0 ≡ Some m
    pub free : m.1.now.ahead ≡ 0
    pub low : All (λ x. rank m.1.now.item ≤ rank x.1.now.item) (filter is_free xs)

  lowest_is_found : (m : ℕ × Bor (Waiting T)) → Found m → LowestFree rank ws m.0
  lowest_is_found m found = record {
    within = within;
    free = λ d. ap (λ (w : Waiting T). w.ahead) (here d) ∙ found.free;
    lowest = λ d. subst (λ (v : Waiting T). All (λ w. w.ahead ≡ 0 → rank v.item ≤ rank w.item) ws) (sym (here d)) (of_all (λ w. rank m.1.now.item ≤ rank w.item) found.low);
  }
    where
      inside : m.0 < length xs
      inside = elim (slice_get_cases xs m.0).1 [ inl (x, less, _, _) ↦ less | inr (past, none) ↦ let both : Some m ≡ None = sym found.at ∙ none in cc ]

      within : m.0 < length ws
      within = omega (arith, inside, ap length are, length-map xs (λ x. x.1.now))

      here : (d : Waiting T) → get_or ws m.0 d ≡ m.1.now
      here d = ap (λ l. get_or l m.0 d) (sym are) ∙ get_or-map (λ x. x.1.now) xs m.0 m d inside ∙ ap (λ x. x.1.now) (get_or_from_slice_get xs m.0 m m found.at)

  -- the place of what was found, if anything was
  pub place_of_found :
      {N : Type 0} {M : ℕ × Bor (Waiting T) → Type 0} {C : ℕ × Bor (Waiting T) → ℕ → Type 0} (o : Option (ℕ × Bor (Waiting T))) (place : Option ℕ) →
      (N → filter is_free xs ≡ []) → ((m : ℕ × Bor (Waiting T)) → M m → Found m) → ((m : ℕ × Bor (Waiting T)) (k : ℕ) → C m k → k ≡ m.0) →
      MatchOption o N M → MatchOption o (place ≡ None) (λ m. IsSomeAnd place (C m)) → MatchOption place (NoneFree ws) (LowestFree rank ws)
  place_of_found None place none some first n e = subst (λ o. MatchOption o (NoneFree ws) (LowestFree rank ws)) (sym e) (none_is_free (none n))
  place_of_found (Some m) None none some first f e = absurd e
  place_of_found (Some m) (Some k) none some first f e = subst (LowestFree rank ws) (sym (first m k e)) (lowest_is_found m (some m f))
