-- The parts of a change are read exactly: a byte, a number, a part, a text, and several of a kind.
-- Assumes nothing.
use Rattle.std.proofs.Common.{◌≡◌, ℕ, zero, suc, ◌+◌, ◌*◌, ◌/◌, ◌%◌, ◌<◌, ◌≤◌, Bool, true, false, cond, ◌&&◌, leb, List, [], ◌∷◌, ◌++◌, length, take, drop, Ok, Err, sym, refl, ap, ◌∙◌, subst, append_assoc, le_trans, arith, lit≤, length-append, take-append-drop, length-take-le, take_at, drop_at, ltb-true, lt-ltb, le-leb, leb-true}
use native.Mathlib.Nat.{div-div-eq-div-mul}
use Rattle.change.specs.declared.fault.Fault.TheVariants.{CutShort, Malformed}
use Rattle.std.specs.List.{flat_map}
use Rattle.change.specs.Bytes.{number_bytes, counted, text_bytes}
use Rattle.change.specs.Reading.{Read, next, only, byte_of, number_of, part_of, how_many, several, counted_of, number_within, text_of}
use Rattle.change.specs.WellFormed.{is_byte, is_text, highest_line}
use Rattle.change.proofs.Exact.{Exact, ok_is_not_err, cut_is_not_malformed, same_answer, next_ok, next_stays, chosen_ok, chosen_malformed, exact_by, next_exact, only_exact}
use Rattle.change.proofs.Tests.{and_true, both_true}

pub byte_exact : Exact byte_of (λ b. b ∷ []) (λ b. is_byte b ≡ true)
byte_exact = record { writes = λ b rest h. ap (λ t. cond t (Ok (b, rest)) (Err Malformed)) h; reads = reads; stays = stays }
  where
    reads : (bytes : List ℕ) (b : ℕ) (rest : List ℕ) → byte_of bytes ≡ Ok (b, rest) → (is_byte b ≡ true) × (bytes ≡ b ∷ rest)
    reads [] b rest h = ok_is_not_err (sym h)
    reads (a ∷ bytes) b rest h = let t = chosen_ok (is_byte a) a b bytes rest h in (ap is_byte (sym t.1) ∙ t.0, λ i. t.1 i ∷ t.2 i)

    stays : (bytes more : List ℕ) → byte_of bytes ≡ Err Malformed → byte_of (bytes ++ more) ≡ Err Malformed
    stays [] more h = cut_is_not_malformed h
    stays (a ∷ bytes) more h = chosen_malformed (is_byte a) a a bytes (bytes ++ more) h

four_bytes : (a b c d : ℕ) → is_byte a && (is_byte b && (is_byte c && is_byte d)) ≡ true → (a < 256) × (b < 256) × (c < 256) × (d < 256)
four_bytes a b c d h =
    let p = and_true (is_byte a) _ h in let q = and_true (is_byte b) _ p.1 in let r = and_true (is_byte c) _ q.1 in
    (ltb-true a 256 p.0, ltb-true b 256 q.0, ltb-true c 256 r.0, ltb-true d 256 r.1)

all_four : (a b c d : ℕ) → a < 256 → b < 256 → c < 256 → d < 256 → is_byte a && (is_byte b && (is_byte c && is_byte d)) ≡ true
all_four a b c d p q r s = rw (lt-ltb a 256 p, lt-ltb b 256 q, lt-ltb c 256 r, lt-ltb d 256 s)

joined_digits : (n q r s d c b a : ℕ) → q * 256 + d ≡ n → r * 256 + c ≡ q → s * 256 + b ≡ r → a ≡ s → a * 16777216 + b * 65536 + c * 256 + d ≡ n
joined_digits n q r s d c b a e f g h = omega arith

value_of_bytes : (n : ℕ) → n ≤ highest_line → n / 16777216 % 256 * 16777216 + n / 65536 % 256 * 65536 + n / 256 % 256 * 256 + n % 256 ≡ n
value_of_bytes n h =
    let two = div-div-eq-div-mul n 256 256 in
    let three = div-div-eq-div-mul n 65536 256 in
    let low : n / 65536 < 65536 = omega arith in
    joined_digits n (n / 256) (n / 65536) (n / 16777216) (n % 256) (n / 256 % 256) (n / 65536 % 256) (n / 16777216 % 256)
    (omega arith) (rw (← two) (omega arith)) (rw (← three) (omega arith)) (rw (← three) (omega arith))

bytes_of_value : (a b c d : ℕ) → a < 256 → b < 256 → c < 256 → d < 256 → number_bytes (a * 16777216 + b * 65536 + c * 256 + d) ≡ a ∷ b ∷ c ∷ d ∷ []
bytes_of_value a b c d p q r s =
    let n = a * 16777216 + b * 65536 + c * 256 + d in
    let one : n / 256 ≡ a * 65536 + b * 256 + c = omega arith in
    let two : n / 65536 ≡ a * 256 + b = omega arith in
    let three : n / 16777216 ≡ a = omega arith in
    let first : n / 16777216 % 256 ≡ a = rw three (omega arith) in
    let second : n / 65536 % 256 ≡ b = rw two (omega arith) in
    let third : n / 256 % 256 ≡ c = rw one (omega arith) in
    let fourth : n % 256 ≡ d = omega arith in
    λ i. first i ∷ second i ∷ third i ∷ fourth i ∷ []

pub number_exact : Exact number_of number_bytes (λ n. n ≤ highest_line)
number_exact = record { writes = writes; reads = reads; stays = stays }
  where
    writes : (n : ℕ) (rest : List ℕ) → n ≤ highest_line → number_of (number_bytes n ++ rest) ≡ Ok (n, rest)
    writes n rest h =
        ap (λ t. cond t (Ok (n / 16777216 % 256 * 16777216 + n / 65536 % 256 * 65536 + n / 256 % 256 * 256 + n % 256, rest)) (Err Malformed))
        (all_four (n / 16777216 % 256) (n / 65536 % 256) (n / 256 % 256) (n % 256) (omega arith) (omega arith) (omega arith) (omega arith))
        ∙ ap (λ m. Ok (m, rest)) (value_of_bytes n h)

    reads : (bytes : List ℕ) (n : ℕ) (rest : List ℕ) → number_of bytes ≡ Ok (n, rest) → (n ≤ highest_line) × (bytes ≡ number_bytes n ++ rest)
    reads [] n rest h = ok_is_not_err (sym h)
    reads (a ∷ []) n rest h = ok_is_not_err (sym h)
    reads (a ∷ b ∷ []) n rest h = ok_is_not_err (sym h)
    reads (a ∷ b ∷ c ∷ []) n rest h = ok_is_not_err (sym h)
    reads (a ∷ b ∷ c ∷ d ∷ bytes) n rest h =
        let t = chosen_ok _ _ n bytes rest h in
        let (p, q, r, s) = four_bytes a b c d t.0 in (
          subst (λ m. m ≤ highest_line) t.1 (omega arith),
          ap (λ l. l ++ bytes) (sym (bytes_of_value a b c d p q r s)) ∙ (λ i. number_bytes (t.1 i) ++ t.2 i),
        )

    stays : (bytes more : List ℕ) → number_of bytes ≡ Err Malformed → number_of (bytes ++ more) ≡ Err Malformed
    stays [] more h = cut_is_not_malformed h
    stays (a ∷ []) more h = cut_is_not_malformed h
    stays (a ∷ b ∷ []) more h = cut_is_not_malformed h
    stays (a ∷ b ∷ c ∷ []) more h = cut_is_not_malformed h
    stays (a ∷ b ∷ c ∷ d ∷ bytes) more h = chosen_malformed _ _ _ bytes (bytes ++ more) h

pub part_exact : (n : ℕ) → Exact (part_of n) (λ t. t) (λ t. length t ≡ n)
part_exact n = record { writes = writes; reads = reads; stays = stays }
  where
    writes : (t : List ℕ) (rest : List ℕ) → length t ≡ n → part_of n (t ++ rest) ≡ Ok (t, rest)
    writes t rest h =
        ap (λ b. cond b (Ok (take n (t ++ rest), drop n (t ++ rest))) (Err CutShort)) (le-leb n (length (t ++ rest)) (rw length-append (omega arith)))
        ∙ (λ i. Ok (take_at t rest n h i, drop_at t rest n h i))

    found : (b : Bool) (bytes t rest : List ℕ) → leb n (length bytes) ≡ b → ◌≡◌ {A = Read (List ℕ)} (cond b (Ok (take n bytes, drop n bytes)) (Err CutShort)) (Ok (t, rest)) → (length t ≡ n) × (bytes ≡ t ++ rest)
    found true bytes t rest e h =
        let s = same_answer h in
        let long = leb-true n (length bytes) e in
        (ap length (sym s.0) ∙ length-take-le n bytes long, sym (take-append-drop n bytes) ∙ (λ i. s.0 i ++ s.1 i))
    found false bytes t rest e h = ok_is_not_err (sym h)

    reads : (bytes t rest : List ℕ) → part_of n bytes ≡ Ok (t, rest) → (length t ≡ n) × (bytes ≡ t ++ rest)
    reads bytes t rest h = found (leb n (length bytes)) bytes t rest refl h

    never : (b : Bool) (t rest : List ℕ) → ◌≡◌ {A = Read (List ℕ)} (cond b (Ok (t, rest)) (Err CutShort)) (Err Malformed) → ⊥
    never true t rest h = ok_is_not_err h
    never false t rest h = cut_is_not_malformed h

    stays : (bytes more : List ℕ) → part_of n bytes ≡ Err Malformed → part_of n (bytes ++ more) ≡ Err Malformed
    stays bytes more h = absurd (never (leb n (length bytes)) _ _ h)

pub within_exact : (high low : ℕ) → high ≤ highest_line → Exact (number_within high low) number_bytes (λ n. leb low n && leb n high ≡ true)
within_exact high low h =
    exact_by _ _ (only_exact (λ n. leb low n && leb n high) number_exact) (λ n. refl) (λ n t. t.1)
    (λ n t. (le_trans (leb-true n high (and_true (leb low n) (leb n high) t).1) h, t))

pub how_many_exact : (limit : ℕ) → limit ≤ 255 → Exact (how_many limit) (λ n. n ∷ []) (λ n. leb n limit ≡ true)
how_many_exact limit h =
    exact_by _ _ (only_exact (λ n. leb n limit) byte_exact) (λ n. refl) (λ n t. t.1) (λ n t. (lt-ltb n 256 (omega (arith, leb-true n limit t)), t))

-- each value passes the test that the one before it leaves
abbrev pub chained : {X : Type 0} → (ℕ → X → Bool) → (X → ℕ) → ℕ → List X → Bool
chained ok then state [] = true
chained ok then state (x ∷ xs) = ok state x && chained ok then (then x) xs

module _ {X : Type 0} (one : ℕ → List ℕ → Read X) (w : X → List ℕ) (ok : ℕ → X → Bool) (then : X → ℕ) (each : (state : ℕ) → Exact (one state) w (λ x. ok state x ≡ true)) where
  abbrev Passes : ℕ → ℕ → List X → Type 0
  Passes n state xs = (length xs ≡ n) × (chained ok then state xs ≡ true)

  no_values : (xs : List X) → length xs ≡ 0 → xs ≡ []
  no_values [] h = refl
  no_values (x ∷ xs) h = absurd (omega arith)

  writes_several : (n state : ℕ) (xs : List X) (rest : List ℕ) → Passes n state xs → several one then n state (flat_map w xs ++ rest) ≡ Ok (xs, rest)
  writes_several zero state [] rest h = refl
  writes_several zero state (x ∷ xs) rest h = absurd (omega (arith, h.0))
  writes_several (suc n) state [] rest h = absurd (omega (arith, h.0))
  writes_several (suc n) state (x ∷ xs) rest h =
      let t = and_true (ok state x) _ h.1 in
      ap (λ l. several one then (suc n) state l) (append_assoc (w x) (flat_map w xs) rest)
      ∙ ap (λ r. next r (λ y m. next (several one then n (then y) m) (λ ys m'. Ok (y ∷ ys, m')))) ((each state).writes x (flat_map w xs ++ rest) t.0)
      ∙ ap (λ r. next r (λ ys m'. Ok (x ∷ ys, m'))) (writes_several n (then x) xs rest (omega (arith, h.0), t.1))

  reads_several : (n state : ℕ) (bytes : List ℕ) (xs : List X) (rest : List ℕ) → several one then n state bytes ≡ Ok (xs, rest) → Passes n state xs × (bytes ≡ flat_map w xs ++ rest)
  reads_several zero state bytes xs rest h = let s = same_answer h in
      ((ap length (sym s.0), ap (chained ok then state) (sym s.0)), s.1 ∙ ap (λ l. flat_map w l ++ rest) s.0)
  reads_several (suc n) state bytes xs rest h =
      let t = next_ok (one state bytes) _ xs rest h in
      let u = next_ok (several one then n (then t.0) t.1) _ xs rest t.3 in
      let s = same_answer u.3 in
      let front = (each state).reads bytes t.0 t.1 t.2 in
      let back = reads_several n (then t.0) t.1 u.0 u.1 u.2 in (
        (ap length (sym s.0) ∙ ap suc back.0.0, ap (chained ok then state) (sym s.0) ∙ both_true front.0 back.0.1),
        front.1 ∙ ap (λ l. w t.0 ++ l) back.1 ∙ sym (append_assoc (w t.0) (flat_map w u.0) u.1) ∙ (λ i. flat_map w (s.0 i) ++ s.1 i),
      )

  behind_stays : (x : X) (r s : Read (List X)) → (r ≡ Err Malformed → s ≡ Err Malformed) →
      next r (λ xs rest. Ok (x ∷ xs, rest)) ≡ Err Malformed → next s (λ xs rest. Ok (x ∷ xs, rest)) ≡ Err Malformed
  behind_stays x (Ok y) s to h = ok_is_not_err h
  behind_stays x (Err e) s to h = ap (λ t. next t (λ xs rest. Ok (x ∷ xs, rest))) (to h)

  stays_several : (n state : ℕ) (bytes more : List ℕ) → several one then n state bytes ≡ Err Malformed → several one then n state (bytes ++ more) ≡ Err Malformed
  stays_several zero state = λ bytes more h. ok_is_not_err h
  stays_several (suc n) state = next_stays _ (each state) (λ x h bytes more. behind_stays x _ _ (stays_several n (then x) bytes more))

  pub several_exact : (n state : ℕ) → Exact (several one then n state) (flat_map w) (Passes n state)
  several_exact n state = record { writes = writes_several n state; reads = reads_several n state; stays = stays_several n state }

  pub counted_exact : (limit state : ℕ) → limit ≤ 255 → Exact (counted_of limit one then state) (counted w) (λ xs. (leb (length xs) limit ≡ true) × (chained ok then state xs ≡ true))
  counted_exact limit state h = next_exact length (λ n. several one then n state) (flat_map w) (λ xs. chained ok then state xs ≡ true) (how_many_exact limit h) (λ n _. several_exact n state)

pub text_exact : Exact text_of text_bytes (λ t. is_text t ≡ true)
text_exact =
    exact_by _ _ (next_exact length (λ n bytes. only is_text (part_of n bytes)) (λ t. t) (λ t. is_text t ≡ true) (how_many_exact 120 (lit≤ tt)) (λ n _. only_exact is_text (part_exact n)))
    (λ t. refl) (λ t h. h.1) (λ t h. ((and_true (leb (length t) 120) _ h).0, h))
