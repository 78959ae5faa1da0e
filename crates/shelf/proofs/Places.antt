-- A test made place by place, from the first on: it comes to what the chain over the elements and their places answers.
-- Assumes nothing.
use Rattle.std.proofs.Common.{◌≡◌, ℕ, suc, ◌+◌, ◌<◌, Bool, true, ◌&&◌, List, [], ◌∷◌, length, get_or, sym, ap, ◌∙◌, subst, arith}
use Rattle.std.specs.List.{list_all, enumerate_from}

-- left i: what the places from i on come to
module _ {X : Type 0} (test : ℕ × X → Bool) (left : ℕ → Bool) (d : X) where
  from_place : (n : ℕ) (xs : List X) → ((i : ℕ) → i < length xs → left (n + i) ≡ test (n + i, get_or xs i d) && left (n + i + 1)) → left (n + length xs) ≡ true → left n ≡ list_all test (enumerate_from n xs)
  from_place n [] one_by_one none_left = let same : n ≡ n + 0 = omega arith in ap left same ∙ none_left
  from_place n (x ∷ xs) one_by_one none_left =
      let first : n ≡ n + 0 = omega arith in
      let last : n + 1 + length xs ≡ n + suc (length xs) = omega arith in
      ap left first ∙ one_by_one 0 (omega arith)
      ∙ ap (λ k. test (k, x) && left (k + 1)) (sym first)
      ∙ ap (λ b. test (n, x) && b)
      (from_place (n + 1) xs
      (λ i less.
      let here : n + suc i ≡ n + 1 + i = omega arith in
      subst (λ k. left k ≡ test (k, get_or xs i d) && left (k + 1)) here (one_by_one (suc i) (omega arith)))
      (ap left last ∙ none_left))

  pub place_by_place : (xs : List X) → ((i : ℕ) → i < length xs → left i ≡ test (i, get_or xs i d) && left (i + 1)) → left (length xs) ≡ true → left 0 ≡ list_all test (enumerate_from 0 xs)
  place_by_place xs one_by_one none_left =
      from_place 0 xs
      (λ i less.
      let here : i ≡ 0 + i = omega arith in
      subst (λ k. left k ≡ test (k, get_or xs i d) && left (k + 1)) here (one_by_one i less))
      (let all : 0 + length xs ≡ length xs = omega arith in ap left all ∙ none_left)
