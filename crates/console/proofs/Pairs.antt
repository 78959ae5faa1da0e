-- A list cut into pairs.
-- Assumes nothing.
use Rattle.std.proofs.Common.{◌≡◌, ℕ, zero, suc, ◌+◌, ◌*◌, ◌/◌, ◌%◌, ◌<◌, ◌≤◌, List, [], ◌∷◌, length, get_or, drop, refl, sym, ap, ◌∙◌, arith, length-drop}
use Rattle.std.proofs.lemmas.List.{drop-drop}
use Rattle.std.specs.Char.{to_ascii_lowercase}
use Rattle.std.specs.Simd.{first_chunks}

drop_two_more : (i : ℕ) (h l : ℕ) (tail : List ℕ) → drop (2 * suc i) (h ∷ l ∷ tail) ≡ drop (2 * i) tail
drop_two_more i h l tail = let more : 2 * suc i ≡ suc (suc (2 * i)) = omega arith in ap (λ n. drop n (h ∷ l ∷ tail)) more

-- The elements of a pair are the first two of what stands from there on.
pub in_pair : (j : ℕ) → j < 2 → (k : ℕ) (s : List ℕ) (i : ℕ) (d : List ℕ) → i < k → 2 * k ≤ length s → get_or (get_or (first_chunks 2 k s) i d) j 0 ≡ get_or (drop (2 * i) s) j 0
in_pair j small zero s i d less room = absurd (omega arith)
in_pair j small (suc k) [] i d less room = absurd (omega arith)
in_pair j small (suc k) (h ∷ []) i d less room = absurd (omega arith)
in_pair zero small (suc k) (h ∷ l ∷ tail) zero d less room = refl
in_pair (suc zero) small (suc k) (h ∷ l ∷ tail) zero d less room = refl
in_pair (suc (suc j)) small (suc k) (h ∷ l ∷ tail) zero d less room = absurd (omega arith)
in_pair j small (suc k) (h ∷ l ∷ tail) (suc i) d less room =
    in_pair j small k tail i d (omega arith) (omega arith) ∙ sym (ap (λ r. get_or r j 0) (drop_two_more i h l tail))

-- What two digits of a pair are in lower case, they are where they stand in the whole.
pub same_pair : (digits s : List ℕ) → s ≡ digits → (pairs : List (List ℕ)) → pairs ≡ first_chunks 2 (length s / 2) s → (i : ℕ) → i < length s / 2 →
    to_ascii_lowercase (get_or (drop (2 * i) digits) 0 0) ∷ to_ascii_lowercase (get_or (drop (2 * i) digits) 1 0) ∷ []
    ≡ to_ascii_lowercase (get_or (get_or pairs i []) 0 0) ∷ to_ascii_lowercase (get_or (get_or pairs i []) 1 0) ∷ []
same_pair digits s same pairs cut i less = λ k. to_ascii_lowercase (sym (at 0 (omega arith)) k) ∷ to_ascii_lowercase (sym (at 1 (omega arith)) k) ∷ []
  where
    at : (j : ℕ) → j < 2 → get_or (get_or pairs i []) j 0 ≡ get_or (drop (2 * i) digits) j 0
    at j small = ap (λ p. get_or (get_or p i []) j 0) cut ∙ in_pair j small (length s / 2) s i [] less (omega arith) ∙ ap (λ t. get_or (drop (2 * i) t) j 0) same

-- Two more are left where a pair is, and as many as are over when all pairs are gone.
pub two_left : (digits : List ℕ) (i : ℕ) → i < length digits / 2 → 2 ≤ length (drop (2 * i) digits)
two_left digits i less = omega (arith, length-drop (2 * i) digits)

pub over : (digits : List ℕ) (i : ℕ) → i ≡ length digits / 2 → length (drop (2 * i) digits) ≡ length digits % 2
over digits i all = omega (arith, length-drop (2 * i) digits)

pub two_on : (digits : List ℕ) (i : ℕ) → drop 2 (drop (2 * i) digits) ≡ drop (2 * (i + 1)) digits
two_on digits i = drop-drop 2 (2 * i) digits ∙ ap (λ n. drop n digits) (let e : _ ≡ 2 * (i + 1) = omega arith in e)
