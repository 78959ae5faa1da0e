-- The walk while it goes: what is done of it, and the items that wait.
-- Going before rank ts ws done: of the walk through the items ts, the front is done, and ws wait with their counts.
-- Assumes nothing.
use Rattle.std.proofs.Common.{◌≡◌, ℕ, ◌<◌, ◌≤◌, Bool, true, List, [], ◌∷◌, ◌++◌, map, length, get_or, sym, refl, ap, ◌∙◌, subst, append_assoc, append-nil, arith}
use Rattle.std.specs.List.{remove, All}
use Rattle.std.proofs.lemmas.List.Elements.{All-nil, All-cons}
use Rattle.std.proofs.lemmas.List.{get_or-map, length-map}
use Rattle.walks.specs.declared.waiting.Waiting.{Waiting}
use Rattle.walks.specs.Walk.{ahead_of, IsNext, IsWalk}
use Rattle.walks.specs.Waiting.{among, waiting_of, lowered, CanFall, NoneFree, LowestFree}
use Rattle.walks.proofs.Removed.{all_removed, map_removed}
use Rattle.walks.proofs.Counts.{gone_was_counted, lowered_counts}

abbrev pub items_of : {T : Type 0} → List (Waiting T) → List T
items_of ws = map (λ w. w.item) ws

pub record Going {T : Type 0} (before : T → T → Bool) (rank : T → ℕ) (ts : List T) (ws : List (Waiting T)) (done : List T) : Type 0 where
  pub counted : ws ≡ waiting_of before (items_of ws)
  pub goes : (rest : List T) → IsWalk before rank (items_of ws) rest → IsWalk before rank ts (done ++ rest)

items_waiting : {T : Type 0} (before : T → T → Bool) (us ts : List T) → items_of (map (among before us) ts) ≡ ts
items_waiting before us [] = refl
items_waiting before us (t ∷ ts) = ap (λ l. t ∷ l) (items_waiting before us ts)

items_lowered : {T : Type 0} (before : T → T → Bool) (t : T) (ws : List (Waiting T)) → items_of (map (lowered before t) ws) ≡ items_of ws
items_lowered before t [] = refl
items_lowered before t (w ∷ ws) = ap (λ l. w.item ∷ l) (items_lowered before t ws)

module _ {T : Type 0} (before : T → T → Bool) (rank : T → ℕ) (ts : List T) (ws : List (Waiting T)) (done : List T) where
  pub going_from_start : ws ≡ waiting_of before ts → done ≡ [] → Going before rank ts ws done
  going_from_start e f =
      let same = ap items_of e ∙ items_waiting before ts ts in
      record { counted = e ∙ ap (waiting_of before) (sym same); goes = λ rest walks. rw f (subst (λ us. IsWalk before rank us rest) same walks) }

  module _ (going : Going before rank ts ws done) where
    abbrev us : List T
    us = items_of ws

    long : length us ≡ length ws
    long = length-map ws (λ w. w.item)

    item_at : (k : ℕ) (d : Waiting T) → k < length ws → get_or us k d.item ≡ (get_or ws k d).item
    item_at k d h = get_or-map (λ w. w.item) ws k d d.item h

    count_at : (k : ℕ) (d : Waiting T) → k < length ws → (get_or ws k d).ahead ≡ ahead_of before us (get_or us k d.item)
    count_at k d h =
        ap (λ v. (get_or v k d).ahead) going.counted ∙ ap (λ (w : Waiting T). w.ahead) (get_or-map (among before us) us k d.item d (omega (arith, long)))

    -- what holds of each that waits and its count, by the item
    by_item : (P : T → ℕ → Type 0) → All (λ w. P w.item w.ahead) ws → All (λ t. P t (ahead_of before us t)) us
    by_item P all k t h =
        let less : k < length ws = omega (arith, long) in
        let d : Waiting T = record { item = t; ahead = 0 } in
        subst (P (get_or us k t)) (count_at k d less) (subst (λ x. P x (get_or ws k d).ahead) (sym (item_at k d less)) (all k d less))

    pub going_ends : NoneFree ws → IsWalk before rank ts done
    going_ends none = subst (IsWalk before rank ts) (append-nil done) (going.goes [] (by_item (λ _ n. n ≡ 0 → ⊥) none))

    module _ (k : ℕ) (found : LowestFree rank ws k) (w : Waiting T) (there : w ≡ get_or ws k w) where
      within : k < length us
      within = omega (arith, long, found.within)

      first : w.item ≡ get_or us k w.item
      first = ap (λ (v : Waiting T). v.item) there ∙ sym (item_at k w found.within)

      pub can_count_down : (vs : List (Waiting T)) → vs ≡ remove ws k → CanFall before w.item vs
      can_count_down vs e =
          let falls = λ (v : Waiting T). before w.item v.item ≡ true → 0 < v.ahead in
          subst (All falls) (sym e)
          (all_removed falls ws k (λ j d h r.
          let same = item_at j d h in
          subst (λ n. 0 < n) (sym (count_at j d h)) (gone_was_counted before us k w.item within _ ((λ z. before (sym first z) (same z)) ∙ r))))

      next : IsNext before rank us k w.item
      next = record {
        within = within;
        there = first;
        free = ap (ahead_of before us) first ∙ sym (count_at k w found.within) ∙ found.free w;
        lowest = by_item (λ t n. n ≡ 0 → rank w.item ≤ rank t) (subst (λ (v : Waiting T). All (λ x. x.ahead ≡ 0 → rank v.item ≤ rank x.item) ws) (sym there) (found.lowest w));
      }

      pub going_goes_on : (vs : List (Waiting T)) (more : List T) → vs ≡ map (lowered before w.item) (remove ws k) → more ≡ done ++ w.item ∷ [] → Going before rank ts vs more
      going_goes_on vs more f g =
          let same = ap items_of f ∙ items_lowered before w.item (remove ws k) ∙ map_removed (λ v. v.item) ws k in
          record {
            counted = f ∙ (λ z. map (lowered before (first z)) (remove (going.counted z) k)) ∙ lowered_counts before us k w.item within ∙ ap (waiting_of before) (sym same);
            goes = λ rest walks.
                subst (IsWalk before rank ts) (sym (ap (λ l. l ++ rest) g ∙ append_assoc done (w.item ∷ []) rest))
                (going.goes (w.item ∷ rest) (k, next, subst (λ l. IsWalk before rank l rest) same walks));
          }

-- what is walked is among the items
pub walk_among : {T : Type 0} (before : T → T → Bool) (rank : T → ℕ) (P : T → Type 0) (ts ws : List T) → All P ts → IsWalk before rank ts ws → All P ws
walk_among before rank P ts [] all walks = All-nil P
walk_among before rank P ts (w ∷ ws) all (k, next, walks) =
    All-cons P w ws (subst P (sym next.there) (all k w next.within)) (walk_among before rank P (remove ts k) ws (all_removed P ts k all) walks)
