-- The bytes of names by their places.
-- Assumes nothing.
use Rattle.std.proofs.Common.{◌≡◌, ℕ, zero, suc, ◌+◌, ◌*◌, ◌<◌, ◌≤◌, true, leb, List, [], ◌∷◌, ◌++◌, length, get_or, take, drop, Ok, refl, ap, ◌∙◌, le_trans, arith, lit≤, take_all}
use Rattle.std.specs.List.{flat_map}
use Rattle.change.specs.Bytes.{number_bytes}
use Rattle.change.specs.Reading.{number_of}
use Rattle.change.specs.WellFormed.{lowest_name, highest_name}
use Rattle.change.proofs.Exact.{same_answer}
use Rattle.change.proofs.Parts.{number_exact}
use Rattle.change.proofs.Tests.{and_true}
use Rattle.letters.specs.Message.{head_bytes}
use Rattle.letters.specs.Names.{names_kind, names_limit, names_bytes, are_names}
use Rattle.letters.proofs.Halving.{rising_within}

pub length_numbers : (ns : List ℕ) → length (flat_map number_bytes ns) ≡ 4 * length ns
length_numbers [] = refl
length_numbers (n ∷ ns) = let rest = length_numbers ns in omega arith

pub length_names : (ns : List ℕ) → length (names_bytes ns) ≡ 3 + 4 * length ns
length_names ns = let n = length_numbers ns in omega arith

drop_numbers : (ns : List ℕ) (i : ℕ) → i < length ns → drop (4 * i) (flat_map number_bytes ns) ≡ number_bytes (get_or ns i 0) ++ flat_map number_bytes (drop (suc i) ns)
drop_numbers [] i less = absurd (omega arith)
drop_numbers (n ∷ ns) zero less = refl
drop_numbers (n ∷ ns) (suc i) less =
    let four : 4 * suc i ≡ suc (suc (suc (suc (4 * i)))) = omega arith in
    ap (λ k. drop k (flat_map number_bytes (n ∷ ns))) four ∙ drop_numbers ns i (omega arith)

module _ (ns bytes : List ℕ) (named : are_names ns ≡ true) (own : bytes ≡ names_bytes ns) (i : ℕ) (less : i < length ns) where
  pub name_inside : 3 + 4 * i + 4 ≤ length bytes
  name_inside = omega (arith, ap length own, length_names ns)

  -- what is read at the place of a name is that name
  pub number_at : (n : ℕ) (rest : List ℕ) → Ok (n, rest) ≡ number_of (drop (3 + 4 * i) bytes) → n ≡ get_or ns i 0
  number_at n rest read =
      let name = get_or ns i 0 in
      let later = flat_map number_bytes (drop (suc i) ns) in
      let three : 3 + 4 * i ≡ suc (suc (suc (4 * i))) = omega arith in
      let here : drop (3 + 4 * i) bytes ≡ number_bytes name ++ later = (λ j. drop (three j) (own j)) ∙ drop_numbers ns i less in
      let high = (rising_within lowest_name highest_name ns i (and_true (leb (length ns) names_limit) _ named).1 less).1 in
      (same_answer (read ∙ ap number_of here ∙ number_exact.writes name later (le_trans high (lit≤ tt)))).0

-- the head, and then every name
pub names_written : (ns : List ℕ) (i : ℕ) {out begun none head : List ℕ} → out ≡ begun ++ flat_map number_bytes (take i ns) → begun ≡ none ++ head → none ≡ [] → head ≡ head_bytes names_kind (length ns) → length ns ≤ i → out ≡ names_bytes ns
names_written ns i so_far begins empty head all = so_far ∙ (λ j. (begins ∙ (λ k. empty k ++ head k)) j ++ flat_map number_bytes (take_all i ns all j))
