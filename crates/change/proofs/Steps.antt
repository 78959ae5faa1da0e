-- What reading says at a place of a list: the steps of a cursor.
-- Assumes nothing.
use Rattle.std.proofs.Common.{◌≡◌, ℕ, suc, ◌+◌, ◌-◌, ◌*◌, ◌<◌, ◌≤◌, false, eqb, List, [], ◌∷◌, length, get_or, take, drop, Ok, Err, sym, refl, ap, ◌∙◌, arith, length-drop, drop-cons, drop-drop, lt-ltb, le-leb}
use native.Mathlib.Numerals.{towards_suc}
use borrow.Author.Tests.{lt-leb}
use Rattle.change.specs.declared.fault.Fault.TheVariants.{CutShort}
use Rattle.change.specs.Cursor.{is_next}
use Rattle.change.specs.Reading.{byte_of, number_of, part_of}

byte_of_none : (xs : List ℕ) → length xs ≡ 0 → Err CutShort ≡ byte_of xs
byte_of_none [] e = refl
byte_of_none (x ∷ xs) e = absurd (omega arith)

pub byte_ends : (xs : List ℕ) (i : ℕ) → length xs ≤ i → Err CutShort ≡ byte_of (drop i xs)
byte_ends xs i h = byte_of_none (drop i xs) (length-drop i xs ∙ omega arith)

number_of_few : (xs : List ℕ) → length xs < 4 → Err CutShort ≡ number_of xs
number_of_few [] h = refl
number_of_few (a ∷ []) h = refl
number_of_few (a ∷ b ∷ []) h = refl
number_of_few (a ∷ b ∷ c ∷ []) h = refl
number_of_few (a ∷ b ∷ c ∷ d ∷ xs) h = absurd (omega arith)

pub number_ends : (xs : List ℕ) (i : ℕ) → length xs - i < 4 → Err CutShort ≡ number_of (drop i xs)
number_ends xs i h = number_of_few (drop i xs) (rw length-drop h)

drop_next : (xs : List ℕ) (i : ℕ) → i < length xs → drop i xs ≡ get_or xs i 0 ∷ drop (i + 1) xs
drop_next xs i h = simp towards_suc (drop-cons xs i 0 h)

byte_of_more : (b : ℕ) (rest : List ℕ) → b < 256 → Ok (b, rest) ≡ byte_of (b ∷ rest)
byte_of_more b rest h = rw (lt-ltb b 256 h)

pub byte_reads : (xs : List ℕ) (i : ℕ) → i < length xs → get_or xs i 0 < 256 → Ok (get_or xs i 0, drop (i + 1) xs) ≡ byte_of (drop i xs)
byte_reads xs i h b = byte_of_more _ _ b ∙ ap byte_of (sym (drop_next xs i h))

none_is_next : (b : ℕ) (xs : List ℕ) → length xs ≡ 0 → false ≡ is_next b xs
none_is_next b [] e = refl
none_is_next b (x ∷ xs) e = absurd (omega arith)

pub next_ends : (b : ℕ) (xs : List ℕ) (i : ℕ) → length xs ≤ i → false ≡ is_next b (drop i xs)
next_ends b xs i h = none_is_next b (drop i xs) (length-drop i xs ∙ omega arith)

pub next_is : (b : ℕ) (xs : List ℕ) (i : ℕ) → i < length xs → eqb (get_or xs i 0) b ≡ is_next b (drop i xs)
next_is b xs i h = ap (is_next b) (sym (drop_next xs i h))

number_of_more : (a b c d : ℕ) (rest : List ℕ) → a < 256 → b < 256 → c < 256 → d < 256 → Ok (a * 16777216 + b * 65536 + c * 256 + d, rest) ≡ number_of (a ∷ b ∷ c ∷ d ∷ rest)
number_of_more a b c d rest p q r s = rw (lt-ltb a 256 p, lt-ltb b 256 q, lt-ltb c 256 r, lt-ltb d 256 s)

drop_four : (xs : List ℕ) (i : ℕ) → 4 ≤ length xs - i → drop i xs ≡ get_or xs i 0 ∷ get_or xs (i + 1) 0 ∷ get_or xs (i + 2) 0 ∷ get_or xs (i + 3) 0 ∷ drop (i + 4) xs
drop_four xs i h =
    simp towards_suc
    (drop-cons xs i 0 (omega arith) ∙ ap (λ r. get_or xs i 0 ∷ r)
    (drop-cons xs (suc i) 0 (omega arith) ∙ ap (λ r. get_or xs (suc i) 0 ∷ r)
    (drop-cons xs (suc (suc i)) 0 (omega arith) ∙ ap (λ r. get_or xs (suc (suc i)) 0 ∷ r) (drop-cons xs (suc (suc (suc i))) 0 (omega arith)))))

pub number_reads :
    (xs : List ℕ) (i n : ℕ) → 4 ≤ length xs - i →
    get_or xs i 0 < 256 → get_or xs (i + 1) 0 < 256 → get_or xs (i + 2) 0 < 256 → get_or xs (i + 3) 0 < 256 →
    n ≡ get_or xs i 0 * 16777216 + get_or xs (i + 1) 0 * 65536 + get_or xs (i + 2) 0 * 256 + get_or xs (i + 3) 0 →
    Ok (n, drop (i + 4) xs) ≡ number_of (drop i xs)
number_reads xs i n h p q r s e = rw e (number_of_more _ _ _ _ (drop (i + 4) xs) p q r s ∙ ap number_of (sym (drop_four xs i h)))

pub part_ends : (xs : List ℕ) (i n : ℕ) → length xs - i < n → Err CutShort ≡ part_of n (drop i xs)
part_ends xs i n h = rw (lt-leb n (length (drop i xs)) (rw length-drop h))

pub part_reads : (xs : List ℕ) (i n : ℕ) → n ≤ length xs - i → Ok (take n (drop i xs), drop (i + n) xs) ≡ part_of n (drop i xs)
part_reads xs i n h = rw (le-leb n (length (drop i xs)) (rw length-drop h), drop-drop)
