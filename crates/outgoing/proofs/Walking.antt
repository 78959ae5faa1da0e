-- The walk through the changes that are lacking is the one by which a letter is put in order.
-- Assumes nothing.
use Rattle.std.proofs.Common.{◌≡◌, ℕ, zero, suc, ◌+◌, ◌<◌, ◌≤◌, Bool, true, false, cond, not, ◌&&◌, eqb, List, [], ◌∷◌, map, length, get_or, Some, None, filter, Option, sym, refl, ap, ◌∙◌, subst, inl, inr, arith, Bor}
use Rattle.std.specs.List.{remove, All}
use Rattle.std.proofs.lemmas.List.{get_or-map, length-map}
use Rattle.std.proofs.lemmas.Simd.{map-map}
use Rattle.std.proofs.lemmas.List.Edits.{length-remove}
use Rattle.std.proofs.lemmas.List.Sums.{sum_by-cons}
use Rattle.std.proofs.lemmas.Bool.{eq-eqb, ne_eqb, eqb-true}
use Rattle.std.proofs.lemmas.Bool.Decides.{nat_tests}
use Rattle.change.specs.Few.{listed}
use Rattle.change.specs.Membership.{In, Within}
use Rattle.change.specs.Model.{Change}
use Rattle.order.specs.Names.{HasName}
use Rattle.order.specs.Theorems.{without}
use Rattle.order.proofs.Members.{in_mapped, mapped_in, in_get_or, in_at, kept_from, kept_has}
use Rattle.history.specs.Sane.{Distinct}
use Rattle.history.specs.Taking.{lowest}
use Rattle.history.proofs.Lowest.{IsLowest, lowest_is}
use Rattle.history.proofs.Names.{distinct_one}
use Rattle.sheet.proofs.Removed.{in_removed}
use Rattle.verdict.specs.FromNeeds.{is_among}
use Rattle.walks.specs.Walk.{ahead_of, IsWalk}
use Rattle.walks.proofs.Removed.{map_removed}
use Rattle.sending.specs.Sending.{goes_first, go_on, walk, walk_all}
use Rattle.outgoing.specs.declared.lacking.Lacking.{Lacking}
use Rattle.outgoing.specs.Places.{no_change, change_at, changes_at}
use Rattle.outgoing.specs.Lacking.{places_of, IsOf, ToldOf}

-- distinct changes without the one at a place
without_absent : (n : ℕ) (T : List Change) → (HasName T n → ⊥) → without n T ≡ T
without_absent n [] absent = refl
without_absent n (c ∷ T) absent =
    ap (λ b. cond (not b) (c ∷ without n T) (without n T)) (ne_eqb c.name n (λ e. absent (c, inl refl, e))) ∙ ap (λ R. c ∷ R) (without_absent n T (λ (d, i, e). absent (d, inr i, e)))

without_at : (T : List Change) (k : ℕ) → Distinct T → k < length T → without (get_or T k no_change).name T ≡ remove T k
without_at [] k apart h = absurd (omega arith)
without_at (c ∷ T) zero apart h = ap (λ b. cond (not b) (c ∷ without c.name T) (without c.name T)) (eq-eqb c.name c.name refl) ∙ without_absent c.name T apart.0
without_at (c ∷ T) (suc k) apart h =
    let n = (get_or T k no_change).name in
    let other = ne_eqb c.name n (λ e. apart.0 (get_or T k no_change, in_get_or T k no_change (omega arith), sym e)) in
    ap (λ b. cond (not b) (c ∷ without n T) (without n T)) other ∙ ap (λ R. c ∷ R) (without_at T k apart.1 (omega arith))

distinct_removed : (T : List Change) (k : ℕ) → Distinct T → Distinct (remove T k)
distinct_removed [] zero apart = tt
distinct_removed [] (suc k) apart = tt
distinct_removed (c ∷ T) zero apart = apart.1
distinct_removed (c ∷ T) (suc k) apart = (λ (d, i, e). apart.0 (d, in_removed d T k i, e), distinct_removed T k apart.1)

-- one step of the walk: it goes to the lowest that needs none of them, and ends where there is none
module _ (next : List Change → List Change) (T : List Change) (apart : Distinct T) where
  goes_to_lowest :
      (c : Change) → In c T → goes_first T c ≡ true → ((d : Change) → In d T → goes_first T d ≡ true → c.name ≤ d.name) →
      go_on next T (lowest (filter (goes_first T) T)) ≡ c ∷ next (without c.name T)
  goes_to_lowest c i first low = go (lowest firsts) (lowest_is firsts)
    where
      firsts : List Change
      firsts = filter (goes_first T) T

      go : (o : Option Change) → IsLowest firsts o → go_on next T o ≡ c ∷ next (without c.name T)
      go None none = absurd (none c (kept_has (goes_first T) T c i first))
      go (Some d) (j, least) =
          let (here, passes) = kept_from (goes_first T) T d j in
          let same = distinct_one T apart d c here i (omega (arith, low d here passes, least c (kept_has (goes_first T) T c i first))) in
          ap (λ x. x ∷ next (without x.name T)) same

  ends_where_none_goes : ((d : Change) → In d T → goes_first T d ≡ true → ⊥) → go_on next T (lowest (filter (goes_first T) T)) ≡ []
  ends_where_none_goes none = go (lowest firsts) (lowest_is firsts)
    where
      firsts : List Change
      firsts = filter (goes_first T) T

      go : (o : Option Change) → IsLowest firsts o → go_on next T o ≡ []
      go None _ = refl
      go (Some d) (j, _) = let (here, passes) = kept_from (goes_first T) T d j in absurd (none d here passes)

-- items that stand for changes: one must come before those that need it, and they go by their names
module _ {X : Type 0} (before : X → X → Bool) (rank : X → ℕ) (change : X → Change) where
  pub record StandsFor (xs : List X) : Type 0 where
    pub needed : (a b : X) → In a xs → In b xs → before a b ≡ is_among (change a).name (change b).needs
    pub named : (a : X) → In a xs → rank a ≡ (change a).name

  pub first_is_none_ahead : (b : X) (xs : List X) → ((a : X) → In a xs → before a b ≡ is_among (change a).name (change b).needs) → goes_first (map change xs) (change b) ≡ eqb (ahead_of before xs b) 0
  first_is_none_ahead b [] same = refl
  first_is_none_ahead b (a ∷ xs) same =
      let rest = first_is_none_ahead b xs (λ d i. same d (inr i)) in
      ap (λ t. not t && goes_first (map change xs) (change b)) (sym (same a (inl refl))) ∙ step (before a b) (goes_first (map change xs) (change b)) (ahead_of before xs b) rest
      ∙ ap (λ n. eqb n 0) (sym (sum_by-cons (λ d. cond (before d b) 1 0) a xs))
    where
      step : (t f : Bool) (n : ℕ) → f ≡ eqb n 0 → not t && f ≡ eqb (cond t 1 0 + n) 0
      step true f n e = grind (arith, nat_tests)
      step false f n e = e ∙ ap (λ m. eqb m 0) (omega arith)

  module _ (xs : List X) (stands : StandsFor xs) where
    first_at : (a : X) → In a xs → goes_first (map change xs) (change a) ≡ eqb (ahead_of before xs a) 0
    first_at a i = first_is_none_ahead a xs (λ b j. stands.needed b a j i)

    -- a change that goes first stands at a place where none is ahead
    free_place : (d : Change) → In d (map change xs) → goes_first (map change xs) d ≡ true → (a : X) × (k : ℕ) × (k < length xs) × (get_or xs k a ≡ a) × (ahead_of before xs a ≡ 0) × (d ≡ change a)
    free_place d i first =
        let (a, j, e) = in_mapped change d xs i in
        let (k, h, g) = in_at a a xs j in
        (a, k, h, g, eqb-true _ 0 (sym (first_at a j) ∙ ap (goes_first (map change xs)) (sym e) ∙ first), e)

    walk_ends : Distinct (map change xs) → All (λ a. ahead_of before xs a ≡ 0 → ⊥) xs → (n : ℕ) → walk n (map change xs) ≡ []
    walk_ends apart none zero = refl
    walk_ends apart none (suc n) =
        ends_where_none_goes (walk n) (map change xs) apart (λ d i f. let (a, k, h, g, z, e) = free_place d i f in subst (λ b. ahead_of before xs b ≡ 0 → ⊥) g (none k a h) z)

  pub walked_is_walk : (ws xs : List X) → IsWalk before rank xs ws → StandsFor xs → Distinct (map change xs) → map change ws ≡ walk (length xs) (map change xs)
  walked_is_walk [] xs none stands apart = sym (walk_ends xs stands apart none (length xs))
  walked_is_walk (w ∷ ws) xs (k, next, walks) stands apart =
      let rest = remove xs k in
      let shorter = length-remove xs k next.within in
      let fits : length xs ≡ suc (length rest) = omega arith in
      let in_w = subst (λ a. In a xs) (sym next.there) (in_get_or xs k w next.within) in
      let here : get_or (map change xs) k no_change ≡ change w = get_or-map change xs k w no_change next.within ∙ ap change (sym next.there) in
      let gone : without (change w).name (map change xs) ≡ map change rest =
      ap (λ d. without d.name (map change xs)) (sym here) ∙ without_at (map change xs) k apart (omega (arith, length-map xs change, next.within)) ∙ sym (map_removed change xs k) in
      let stand : StandsFor rest = record { needed = λ a b i j. stands.needed a b (in_removed a xs k i) (in_removed b xs k j); named = λ a i. stands.named a (in_removed a xs k i) } in
      ap (λ cs. change w ∷ cs) (walked_is_walk ws rest walks stand (subst Distinct (sym (map_removed change xs k)) (distinct_removed (map change xs) k apart)))
      ∙ (λ z. change w ∷ walk (length rest) (sym gone z))
      ∙ sym (goes_to_lowest (walk (length rest)) (map change xs) apart (change w) (mapped_in change w xs in_w) (first_at xs stands w in_w ∙ eq-eqb _ 0 next.free)
      (λ d i f.
      let (a, m, h, g, z, e) = free_place xs stands d i f in
      let low = subst (λ b. ahead_of before xs b ≡ 0 → rank w ≤ rank b) g (next.lowest m a h) z in
      omega (arith, stands.named w in_w, stands.named a (subst (λ b. In b xs) g (in_get_or xs m a h)), ap (λ x. x.name) e)))
      ∙ ap (λ n. walk n (map change xs)) (sym fits)

-- references to what is lacking, which tells of changes of K
module _ (ls : List Lacking) (rs : List (Bor Lacking)) (are : map (λ b. b.now) rs ≡ ls) where
  pub places_within : (ws : List (Bor Lacking)) (ps : List ℕ) → ps ≡ map (λ b. b.now.place) ws → Within ws rs → Within ps (places_of ls)
  places_within ws ps placed within x i =
      let (b, j, e) = in_mapped (λ r. r.now.place) x ws (subst (In x) placed i) in
      rw e (mapped_in (λ l. l.place) b.now ls (subst (In b.now) are (mapped_in (λ r. r.now) b rs (within b j))))

  module _ (K : List Change) (told : ToldOf K ls) where
    abbrev pub change_of : Bor Lacking → Change
    change_of b = change_at K b.now.place

    stand : StandsFor (λ a b. is_among a.now.name.0 (listed b.now.needs)) (λ b. b.now.name.0) change_of rs
    stand = record { needed = λ a b i j z. is_among ((of a i).name z) ((of b j).needs z); named = λ a i. (of a i).name }
      where
        of : (b : Bor Lacking) → In b rs → IsOf K b.now
        of b i = told b.now (subst (In b.now) are (mapped_in (λ r. r.now) b rs i))

    their_changes : map change_of rs ≡ changes_at K (places_of ls)
    their_changes =
        sym (map-map (λ l. change_at K l.place) (λ b. b.now) rs) ∙ ap (map (λ l. change_at K l.place)) are ∙ sym (map-map (change_at K) (λ l. l.place) ls)

    pub walked_in_order :
        (ws : List (Bor Lacking)) (ps : List ℕ) → ps ≡ map (λ b. b.now.place) ws → IsWalk (λ a b. is_among a.now.name.0 (listed b.now.needs)) (λ b. b.now.name.0) rs ws → Distinct (changes_at K (places_of ls)) →
        changes_at K ps ≡ walk_all (changes_at K (places_of ls))
    walked_in_order ws ps placed walks apart =
        ap (changes_at K) placed ∙ map-map (change_at K) (λ b. b.now.place) ws
        ∙ walked_is_walk (λ a b. is_among a.now.name.0 (listed b.now.needs)) (λ b. b.now.name.0) change_of ws rs walks stand (subst Distinct (sym their_changes) apart)
        ∙ ap (λ n. walk n (map change_of rs)) (sym (length-map rs change_of)) ∙ ap walk_all their_changes
