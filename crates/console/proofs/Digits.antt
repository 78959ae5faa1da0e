-- Digits read two at a time.
-- SoFar digits bytes rest: the digits are those of these bytes, and then the rest.
-- Assumes nothing.
use Rattle.std.proofs.Common.{◌≡◌, ℕ, ◌/◌, ◌%◌, ◌<◌, ◌≤◌, List, [], ◌∷◌, ◌++◌, map, length, get_or, drop, sym, refl, ap, ◌∙◌, append_assoc, append-nil, arith, ltb-true, lt-ltb}
use lib.Utf8.{encode}
use Rattle.std.specs.Char.{to_ascii_lowercase, digit_value, digit_char}
use Rattle.std.proofs.lemmas.List.{flat_map_more}
use Rattle.std.proofs.lemmas.Str.{digit_value-digit_char}
use Rattle.std.specs.List.{list_all}
use Rattle.std.proofs.lemmas.List.Folds.{list_all-append}
use Rattle.std.proofs.lemmas.Bool.Decides.{nat_tests}
use Rattle.change.specs.WellFormed.{is_byte}
use Rattle.change.proofs.Tests.{and_true, both_true}
use Rattle.console.specs.Hex.{byte_digits, hex_of, AreBytes, Spells, ReadsBack}

abbrev pub SoFar : List ℕ → List ℕ → List ℕ → Type 0
SoFar digits bytes rest = map to_ascii_lowercase digits ≡ hex_of bytes ++ map to_ascii_lowercase rest

first_is_byte : (b : ℕ) (bytes : List ℕ) → AreBytes (b ∷ bytes) → (b < 256) × AreBytes bytes
first_is_byte b bytes h = let both = and_true (is_byte b) _ h in (ltb-true b 256 both.0, both.1)

pub one_more : (bytes now : List ℕ) (b : ℕ) → AreBytes bytes → b < 256 → now ≡ bytes ++ b ∷ [] → AreBytes now
one_more bytes now b all small e =
    ap (list_all is_byte) e ∙ list_all-append is_byte bytes (b ∷ []) ∙ both_true all (both_true (lt-ltb b 256 small) refl)

-- What follows the digits of bytes in the digits of bytes are the digits of bytes.
rest_is_bytes : (front bytes rest : List ℕ) → AreBytes bytes → hex_of bytes ≡ hex_of front ++ rest → (more : List ℕ) × AreBytes more × (rest ≡ hex_of more)
rest_is_bytes [] bytes rest all e = (bytes, all, sym e)
rest_is_bytes (x ∷ front) [] rest all e = let z : ◌≡◌ {A = ℕ} 0 1 = cc in absurd (omega arith)
rest_is_bytes (x ∷ front) (b ∷ bytes) rest all e = rest_is_bytes front bytes rest (first_is_byte b bytes all).1 (cc)

module _ (digits bytes : List ℕ) where
  left_over : (rest others : List ℕ) → SoFar digits bytes rest → AreBytes others → Spells digits others → (more : List ℕ) × AreBytes more × (map to_ascii_lowercase rest ≡ hex_of more)
  left_over rest others so all e = rest_is_bytes bytes others (map to_ascii_lowercase rest) all (sym e ∙ so)

  pub byte_goes_on : (rest now : List ℕ) (b : ℕ) → SoFar digits bytes rest → 2 ≤ length rest →
      to_ascii_lowercase (get_or rest 0 0) ∷ to_ascii_lowercase (get_or rest 1 0) ∷ [] ≡ byte_digits b → now ≡ bytes ++ b ∷ [] → SoFar digits now (drop 2 rest)
  byte_goes_on [] now b so two d e = absurd (omega arith)
  byte_goes_on (h ∷ []) now b so two d e = absurd (omega arith)
  byte_goes_on (h ∷ l ∷ tail) now b so two d e =
      so ∙ ap (λ p. hex_of bytes ++ (p ++ map to_ascii_lowercase tail)) d ∙ sym (append_assoc (hex_of bytes) (byte_digits b) (map to_ascii_lowercase tail))
      ∙ ap (λ p. p ++ map to_ascii_lowercase tail) (flat_map_more byte_digits [] bytes b)
      ∙ sym (ap (λ x. hex_of x ++ map to_ascii_lowercase tail) e)

  pub none_left : (rest : List ℕ) → SoFar digits bytes rest → length rest ≡ 0 → Spells digits bytes
  none_left [] so none = so ∙ append-nil (hex_of bytes)
  none_left (h ∷ rest) so none = absurd (omega arith)

  pub one_left : (rest others : List ℕ) → SoFar digits bytes rest → 0 < length rest → length rest < 2 → AreBytes others → Spells digits others → ⊥
  one_left [] others so some few all e = omega arith
  one_left (h ∷ l ∷ rest) others so some few all e = omega arith
  one_left (h ∷ []) others so some few all e = let (more, _, same) = left_over (h ∷ []) others so all e in odd more same
    where
      odd : (more : List ℕ) → to_ascii_lowercase h ∷ [] ≡ hex_of more → ⊥
      odd [] same = let z : ◌≡◌ {A = ℕ} 0 1 = cc in omega arith
      odd (b ∷ more) same = let z : ◌≡◌ {A = ℕ} 0 1 = cc in omega arith

  pub no_byte : (rest others : List ℕ) → SoFar digits bytes rest → 2 ≤ length rest →
      ((b : ℕ) → b < 256 → to_ascii_lowercase (get_or rest 0 0) ∷ to_ascii_lowercase (get_or rest 1 0) ∷ [] ≡ byte_digits b → ⊥) → AreBytes others → Spells digits others → ⊥
  no_byte [] others so two none all e = omega arith
  no_byte (h ∷ []) others so two none all e = omega arith
  no_byte (h ∷ l ∷ rest) others so two none all e = let (more, are, same) = left_over (h ∷ l ∷ rest) others so all e in differs more are same
    where
      differs : (more : List ℕ) → AreBytes more → to_ascii_lowercase h ∷ to_ascii_lowercase l ∷ map to_ascii_lowercase rest ≡ hex_of more → ⊥
      differs [] are same = let z : ◌≡◌ {A = ℕ} 0 1 = cc in omega arith
      differs (b ∷ more) are same = none b (first_is_byte b more are).0 (cc)

digit_is_ascii : (c d : ℕ) → d < 16 → c ≡ digit_char d → c < 128
digit_is_ascii c d small e = grind (arith, nat_tests)

pub digit_pushed : (was now : List ℕ) (c d : ℕ) → d < 16 → c ≡ digit_char d → (c < 128 → encode c ≡ c ∷ []) → now ≡ was ++ encode c → now ≡ was ++ digit_char d ∷ []
digit_pushed was now c d small same ascii e = e ∙ ap (λ l. was ++ l) (ascii (digit_is_ascii c d small same)) ∙ ap (λ x. was ++ x ∷ []) same

lower_digit : (d : ℕ) → d < 16 → to_ascii_lowercase (digit_char d) ≡ digit_char d
lower_digit d small = grind (arith, nat_tests)

hex_is_lower : (bytes : List ℕ) → AreBytes bytes → map to_ascii_lowercase (hex_of bytes) ≡ hex_of bytes
hex_is_lower [] all = refl
hex_is_lower (b ∷ bytes) all =
    let byte = first_is_byte b bytes all in let small = byte.0 in
    λ i. lower_digit (b / 16) (omega arith) i ∷ lower_digit (b % 16) (omega arith) i ∷ hex_is_lower bytes byte.1 i

same_digit : (d e : ℕ) → d < 16 → e < 16 → digit_char d ≡ digit_char e → d ≡ e
same_digit d e small less same = sym (digit_value-digit_char d (omega arith)) ∙ ap digit_value same ∙ digit_value-digit_char e (omega arith)

same_from_hex : (xs ys : List ℕ) → AreBytes xs → AreBytes ys → hex_of xs ≡ hex_of ys → xs ≡ ys
same_from_hex [] [] p q e = refl
same_from_hex [] (y ∷ ys) p q e = let z : ◌≡◌ {A = ℕ} 0 1 = cc in absurd (omega arith)
same_from_hex (x ∷ xs) [] p q e = let z : ◌≡◌ {A = ℕ} 0 1 = cc in absurd (omega arith)
same_from_hex (x ∷ xs) (y ∷ ys) p q e =
    let a = first_is_byte x xs p in let b = first_is_byte y ys q in let less = a.0 in let small = b.0 in
    let high = same_digit (x / 16) (y / 16) (omega arith) (omega arith) (cc) in
    let low = same_digit (x % 16) (y % 16) (omega arith) (omega arith) (cc) in
    let first : x ≡ y = omega arith in
    λ i. first i ∷ same_from_hex xs ys a.1 b.1 (cc) i

pub reads_back : ReadsBack
reads_back bytes all = (hex_is_lower bytes all, λ others are e. same_from_hex others bytes are all (sym e ∙ hex_is_lower bytes all))
