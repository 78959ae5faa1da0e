-- The counts of what must precede an item: when one is gone, the counts that are left are right again.
-- Assumes nothing.
use Rattle.std.proofs.Common.{◌≡◌, ℕ, ◌+◌, ◌-◌, ◌<◌, Bool, true, false, cond, List, [], ◌∷◌, ◌++◌, map, length, get_or, set, take, drop, sym, refl, ap, ◌∙◌, arith}
use Rattle.std.specs.List.{remove}
use Rattle.std.proofs.lemmas.List.Edits.{map_over_more}
use Rattle.std.proofs.lemmas.List.Sums.{sum_by-remove, get_or-le-sum_by}
use Rattle.std.proofs.lemmas.Bool.Decides.{nat_tests}
use Rattle.walks.specs.declared.waiting.Waiting.{Waiting}
use Rattle.walks.specs.Walk.{ahead_of}
use Rattle.walks.specs.Waiting.{among, waiting_of, lowered}
use Rattle.walks.proofs.Removed.{map_removed}

module _ {T : Type 0} (before : T → T → Bool) (ts : List T) (k : ℕ) (d : T) (h : k < length ts) where
  pub gone_was_counted : (t : T) → before (get_or ts k d) t ≡ true → 0 < ahead_of before ts t
  gone_was_counted t e = let least = get_or-le-sum_by (λ (s : T). cond (before s t) 1 0) ts k d h in grind (arith, nat_tests)

  lowered_right : (t : T) → lowered before (get_or ts k d) (among before ts t) ≡ among before (remove ts k) t
  lowered_right t = ap (λ n. record { item = t; ahead = n }) (go (before (get_or ts k d) t) (sum_by-remove (λ s. cond (before s t) 1 0) ts k d h))
    where
      go : (b : Bool) → ahead_of before (remove ts k) t + cond b 1 0 ≡ ahead_of before ts t → cond b (ahead_of before ts t - 1) (ahead_of before ts t) ≡ ahead_of before (remove ts k) t
      go true e = omega arith
      go false e = omega arith

  pub lowered_counts : map (lowered before (get_or ts k d)) (remove (waiting_of before ts) k) ≡ waiting_of before (remove ts k)
  lowered_counts = ap (map (lowered before (get_or ts k d))) (sym (map_removed (among before ts) ts k)) ∙ each (remove ts k)
    where
      each : (us : List T) → map (lowered before (get_or ts k d)) (map (among before ts) us) ≡ map (among before (remove ts k)) us
      each [] = refl
      each (t ∷ us) = λ i. lowered_right t i ∷ each us i

-- a pass that lowers each count in turn, with the first i done
pub lowered_more :
    {T : Type 0} (before : T → T → Bool) (t : T) (xs ys : List (Waiting T)) (i : ℕ) (d : Waiting T) → i < length xs → ys ≡ map (lowered before t) (take i xs) ++ drop i xs → d ≡ get_or ys i d →
    (b : Bool) (zs : List (Waiting T)) → b ≡ before t (get_or ys i d).item → zs ≡ set ys i (record { item = (get_or ys i d).item; ahead = cond b ((get_or ys i d).ahead - 1) (get_or ys i d).ahead }) →
    zs ≡ map (lowered before t) (take (i + 1) xs) ++ drop (i + 1) xs
lowered_more before t xs ys i d h so_far here b zs same e =
    let w = get_or ys i d in
    e ∙ ap (λ c. set ys i (record { item = w.item; ahead = cond c (w.ahead - 1) w.ahead })) same ∙ map_over_more (lowered before t) xs ys i w h so_far (ap (get_or ys i) here)
