-- Values written one behind the other: at a place, one more, and one taken out.
-- Assumes nothing.
use Rattle.std.proofs.Common.{◌≡◌, ℕ, suc, ◌+◌, ◌-◌, ◌<◌, ◌≤◌, List, [], ◌∷◌, ◌++◌, length, get_or, take, drop, sym, refl, ap, ◌∙◌, append_assoc, append-nil, arith, length-append, length-drop, length-take-le, take-suc, take-take, drop_at}
use lib.Seq.{split_at, take-append_seam, take-paste, paste}
use Rattle.std.specs.List.{flat_map}
use Rattle.std.proofs.lemmas.List.{drop-take}

module _ {X : Type 0} (w : X → List ℕ) where
  pub joined_append : (xs ys : List X) → flat_map w (xs ++ ys) ≡ flat_map w xs ++ flat_map w ys
  joined_append [] ys = refl
  joined_append (x ∷ xs) ys = ap (λ l. w x ++ l) (joined_append xs ys) ∙ sym (append_assoc (w x) (flat_map w xs) (flat_map w ys))

  pub joined_at : (xs : List X) (i : ℕ) (d : X) → i < length xs → flat_map w xs ≡ flat_map w (take i xs) ++ (w (get_or xs i d) ++ flat_map w (drop (suc i) xs))
  joined_at xs i d less = ap (flat_map w) (split_at xs i d less) ∙ joined_append (take i xs) (get_or xs i d ∷ drop (suc i) xs)

  pub joined_next : (xs : List X) (i : ℕ) (d : X) → i < length xs → flat_map w (take (suc i) xs) ≡ flat_map w (take i xs) ++ w (get_or xs i d)
  joined_next xs i d less =
      ap (flat_map w) (take-suc xs i d less) ∙ joined_append (take i xs) (get_or xs i d ∷ []) ∙ ap (λ l. flat_map w (take i xs) ++ l) (append-nil (w (get_or xs i d)))

-- The first `used` bytes of an area, in three parts.
module _ (area : List ℕ) (used : ℕ) (inside : used ≤ length area) (a b c : List ℕ) (parts : take used area ≡ a ++ (b ++ c)) where
  pub used_is : used ≡ length a + (length b + length c)
  used_is =
      let n = ap length parts in
      let m = length-append a (b ++ c) in
      let k = length-append b c in
      let t = length-take-le used area inside in
      omega arith

  first_part : take (length a) area ≡ a
  first_part = sym (take-take (length a) used area (omega (arith, used_is))) ∙ ap (take (length a)) parts ∙ take-append_seam a (b ++ c)

  behind : (p q : List ℕ) → a ++ (b ++ c) ≡ p ++ q → length p ≤ used → take (used - length p) (drop (length p) area) ≡ q
  behind p q same less =
      sym (drop-take (length p) (used - length p) area)
      ∙ ap (λ n. drop (length p) (take n area)) (omega arith)
      ∙ ap (drop (length p)) (parts ∙ same)
      ∙ drop_at p q (length p) refl

  pub second_part : take (length b) (drop (length a) area) ≡ b
  second_part =
      sym (take-take (length b) (used - length a) (drop (length a) area) (omega (arith, used_is)))
      ∙ ap (take (length b)) (behind a (b ++ c) refl (omega (arith, used_is)))
      ∙ take-append_seam b c

  third_part : take (length c) (drop (length a + length b) area) ≡ c
  third_part =
      ap (λ n. take (length c) (drop n area)) (sym (length-append a b))
      ∙ ap (λ n. take n (drop (length (a ++ b)) area)) (omega (arith, used_is, length-append a b))
      ∙ behind (a ++ b) c (sym (append_assoc a b c)) (omega (arith, used_is, length-append a b))

  -- the third moved down over the second
  pub closed_up : take (length a + length c) (paste area (length a) (drop (length a + length b) area) (length c)) ≡ a ++ c
  closed_up =
      take-paste area (length a) (drop (length a + length b) area) (length c) (omega (arith, used_is)) (omega (arith, used_is, length-drop (length a + length b) area))
      ∙ (λ i. first_part i ++ third_part i)
