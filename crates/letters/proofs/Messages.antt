-- A message is read exactly, whatever its values are: the pair of bytes that says how many, the head, the whole.
-- Assumes nothing.
use Rattle.std.proofs.Common.{◌≡◌, ℕ, ◌+◌, ◌*◌, ◌/◌, ◌%◌, ◌<◌, Bool, true, eqb, leb, List, [], ◌∷◌, length, Ok, refl, arith, ltb-true, lt-ltb, eq-eqb, eqb-true, leb-true}
use Rattle.std.specs.List.{flat_map}
use Rattle.change.specs.Reading.{Read, next, only, byte_of, several}
use Rattle.change.specs.WellFormed.{is_byte}
use Rattle.change.proofs.Exact.{Exact, exact_by, next_exact, done_exact, only_exact}
use Rattle.change.proofs.Parts.{byte_exact, chained, several_exact}
use Rattle.letters.specs.Message.{pair_bytes, head_bytes, message_bytes, pair_of, head_of, message_of}

abbrev High : ℕ → ℕ
High n = n / 256 % 256

abbrev Low : ℕ → ℕ
Low n = n % 256

-- the two bytes of a number below 65,536 tell it
pair_value : (n a b : ℕ) → n < 65536 → High n ≡ a → Low n ≡ b → n ≡ a * 256 + b
pair_value n a b less high low = let quotient : n / 256 < 256 = omega arith in omega arith

pair_digits : (n a b : ℕ) → a < 256 → b < 256 → n ≡ a * 256 + b → (High n ≡ a) × (Low n ≡ b) × (n < 65536)
pair_digits n a b p q e = let quotient : n / 256 ≡ a = omega arith in (rw quotient (omega arith), omega arith, omega arith)

low_exact : (a : ℕ) → is_byte a ≡ true → Exact (λ rest. next (byte_of rest) (λ b rest'. Ok (a * 256 + b, rest'))) (λ n. Low n ∷ []) (λ n. (High n ≡ a) × (n < 65536))
low_exact a ha =
    exact_by _ _ (next_exact Low (λ b rest. Ok (a * 256 + b, rest)) (λ n. []) (λ n. (High n ≡ a) × (n < 65536)) byte_exact (λ b hb.
    exact_by _ _ (done_exact (a * 256 + b)) (λ n. refl)
    (λ n e. let d = pair_digits n a b (ltb-true a 256 ha) (ltb-true b 256 hb) e in (d.1, (d.0, d.2)))
    (λ n h. pair_value n a b h.1.1 h.1.0 h.0)))
    (λ n. refl) (λ n h. h.1) (λ n h. (lt-ltb (Low n) 256 (omega arith), h))

pub pair_exact : Exact pair_of pair_bytes (λ n. n < 65536)
pair_exact =
    exact_by _ _ (next_exact High (λ a rest. next (byte_of rest) (λ b rest'. Ok (a * 256 + b, rest'))) (λ n. Low n ∷ []) (λ n. n < 65536) byte_exact low_exact)
    (λ n. refl) (λ n h. h.1) (λ n h. (lt-ltb (High n) 256 (omega arith), h))

pub head_exact : (kind limit : ℕ) → kind < 256 → limit < 65536 → Exact (head_of kind limit) (head_bytes kind) (λ n. leb n limit ≡ true)
head_exact kind limit byte few =
    exact_by _ _ (next_exact (λ _. kind) (λ _ rest. only (λ n. leb n limit) (pair_of rest)) pair_bytes (λ n. leb n limit ≡ true) (only_exact (eqb kind) byte_exact) (λ k h.
    exact_by _ _ (only_exact (λ n. leb n limit) pair_exact) (λ n. refl) (λ n t. (eqb-true kind k h.1, t.1)) (λ n t. (omega (arith, leb-true n limit t.1), t.1))))
    (λ n. refl) (λ n h. h.1) (λ n h. ((lt-ltb kind 256 byte, eq-eqb kind kind refl), h))

module _ {X : Type 0} (one : ℕ → List ℕ → Read X) (w : X → List ℕ) (ok : ℕ → X → Bool) (then : X → ℕ) (each : (state : ℕ) → Exact (one state) w (λ x. ok state x ≡ true)) where
  pub message_exact : (kind limit state : ℕ) → kind < 256 → limit < 65536 → Exact (message_of kind limit one then state) (message_bytes kind w) (λ xs. (leb (length xs) limit ≡ true) × (chained ok then state xs ≡ true))
  message_exact kind limit state byte few =
      next_exact length (λ n. several one then n state) (flat_map w) (λ xs. chained ok then state xs ≡ true) (head_exact kind limit byte few) (λ n _. several_exact one w ok then each n state)
