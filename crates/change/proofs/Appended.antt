-- Values written one behind the other: a few in a row, and several in a loop.
-- Assumes nothing.
use Rattle.std.proofs.Common.{◌≡◌, ℕ, ◌+◌, ◌<◌, ◌≤◌, List, [], ◌∷◌, ◌++◌, map, length, get_or, take, sym, refl, ap, ◌∙◌, append_assoc}
use lib.ListN.{length-map}
use Rattle.std.specs.List.{flat_map}
use Rattle.std.proofs.lemmas.List.{flat_map_more, take_more, take_all}
use Rattle.change.specs.Bytes.{counted}

pub then_written : (s a b : List ℕ) {t u : List ℕ} → t ≡ s ++ a → u ≡ t ++ b → u ≡ s ++ (a ++ b)
then_written s a b e f = f ∙ ap (λ l. l ++ b) e ∙ append_assoc s a b

pub counted_map : {X Y : Type 0} (f : Y → List ℕ) (g : X → Y) (xs : List X) → counted (λ x. f (g x)) xs ≡ counted f (map g xs)
counted_map {X} f g xs = λ i. sym (length-map xs g) i ∷ joined_map xs i
  where
    joined_map : (ys : List X) → flat_map (λ x. f (g x)) ys ≡ flat_map f (map g ys)
    joined_map [] = refl
    joined_map (y ∷ ys) = ap (λ l. f (g y) ++ l) (joined_map ys)

module _ {X : Type 0} (f : X → List ℕ) (front : List ℕ) (xs : List X) (i : ℕ) (was : List ℕ) (so_far : was ≡ front ++ flat_map f (take i xs)) where
  pub one_more_written : (d : X) (now : List ℕ) → i < length xs → now ≡ was ++ f (get_or xs i d) → now ≡ front ++ flat_map f (take (i + 1) xs)
  one_more_written d now less e =
      e ∙ ap (λ l. l ++ f (get_or xs i d)) so_far ∙ flat_map_more f front (take i xs) (get_or xs i d) ∙ ap (λ l. front ++ flat_map f l) (sym (take_more xs i d less))

  pub all_written : (start : List ℕ) → length xs ≤ i → front ≡ start ++ length xs ∷ [] → was ≡ start ++ counted f xs
  all_written start more e =
      so_far ∙ (λ j. e j ++ flat_map f (take_all i xs more j)) ∙ append_assoc start (length xs ∷ []) (flat_map f xs)
