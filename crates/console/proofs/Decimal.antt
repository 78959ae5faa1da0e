-- Which words are numbers.
-- Assumes nothing.
use Rattle.std.proofs.Common.{◌≡◌, ℕ, zero, suc, ◌^◌, ◌<◌, ◌≤◌, ◌⊎◌, List, length, get_or, Ok, Err, decimal, Result, sym, ap, ◌∙◌, ⊎_elim, arith, lit<, length-drop, MatchOption}
use Rattle.std.specs.Str.Parse.{AllDigits, digits_value, without_leading_plus, ParsesUnsigned}
use Rattle.std.specs.Result.{result_ok}
use Rattle.std.proofs.lemmas.Fmt.{decimal_digit, decimal-digits_value, digits_decimal, first_decimal, parse-decimal}
use Rattle.std.proofs.lemmas.Str.Parse.{IsNumeralModel, numerals_by_value, tells_digits, without_leading_plus_plus, not_in_digits, parse_plain}
use Rattle.console.specs.Words.{Spaceless}

pub numerals : IsNumeralModel (AllDigits 10) (digits_value 10)
numerals = numerals_by_value (AllDigits 10) tells_digits

-- What is longer than one digit begins with none below 1.
pub long_and_low_is_no_decimal : (word : List ℕ) → 1 < length word → get_or word 0 0 < 49 → (n : ℕ) → n < 2 ^ 32 → word ≡ decimal n → ⊥
long_and_low_is_no_decimal word long low zero small e = let one = ap length (e ∙ decimal_digit 0 (lit< tt)) in omega arith
long_and_low_is_no_decimal word long low (suc n) small e =
    let first = first_decimal (suc n) (omega arith) (omega arith) in let same = ap (λ w. get_or w 0 0) e in omega arith

lone_sign_has_no_digit : (word : List ℕ) → length word ≤ 1 → get_or word 0 0 ≡ 43 → 0 < length (without_leading_plus word) → ⊥
lone_sign_has_no_digit word short plus some = let none = ap length (without_leading_plus_plus word plus) ∙ length-drop 1 word in omega arith

-- What is one byte, or begins with a digit above 0, is parsed only if it is a number as it is written.
pub parse_gives_decimal : {E : Type 0} (word : List ℕ) (r : Result ℕ E) → (length word ≤ 1) ⊎ (49 ≤ get_or word 0 0) → ParsesUnsigned 32 10 word r →
    MatchOption (result_ok r) ((n : ℕ) → n < 2 ^ 32 → word ≡ decimal n → ⊥) (λ n. word ≡ decimal n)
parse_gives_decimal word (Err e) plain h = λ n small same. let back = parse-decimal 32 n word (Err e) small (omega arith) same h in let z : ◌≡◌ {A = ℕ} 0 1 = cc in omega arith
parse_gives_decimal {E} word (Ok n) plain h =
    let p = parse_plain numerals {E = E} 32 word (Ok n) h (λ plus. ⊎_elim (λ short. lone_sign_has_no_digit word short plus h.0.0.0) (λ high. omega arith) plain) in
    sym (decimal-digits_value numerals word p.0.0 p.0.1 (λ nought. ⊎_elim (λ short. let some = p.0.1 in omega arith) (λ high. absurd (omega arith)) plain) (let small = p.0.2 in omega arith))
    ∙ ap decimal (sym p.1)

pub decimal_has_no_space : (n : ℕ) → n < 2 ^ 32 → Spaceless (decimal n)
decimal_has_no_space n small = not_in_digits numerals (decimal n) 32 (digits_decimal numerals n (omega arith)) (λ h. let low = h.0 in omega arith)
