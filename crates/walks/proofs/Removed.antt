-- A list without what stood at one place.
-- Assumes nothing.
use Rattle.std.proofs.Common.{◌≡◌, ℕ, zero, suc, List, [], ◌∷◌, map, take, drop, refl, ap}
use Rattle.std.specs.List.{remove, All}
use Rattle.std.proofs.lemmas.List.Elements.{All-append, All-take, All-drop}

module _ {X : Type 0} where
  pub all_removed : (P : X → Type 0) (xs : List X) (k : ℕ) → All P xs → All P (remove xs k)
  all_removed P xs k all = All-append P (take k xs) (drop (suc k) xs) (All-take P k xs all) (All-drop P (suc k) xs all)

  pub map_removed : {Y : Type 0} (f : X → Y) (xs : List X) (k : ℕ) → map f (remove xs k) ≡ remove (map f xs) k
  map_removed f [] zero = refl
  map_removed f [] (suc k) = refl
  map_removed f (x ∷ xs) zero = refl
  map_removed f (x ∷ xs) (suc k) = ap (λ ys. f x ∷ ys) (map_removed f xs k)
