use Rattle.std.proofs.Common.{◌≡◌, ℕ, ◌^◌, ◌<◌, ◌≤◌, ◌⊎◌, length, get_or, decimal, sym, ap, subst, inl, inr, arith, MatchOption}
use Rattle.console.proofs.Decimal.{long_and_low_is_no_decimal, parse_gives_decimal}
use Rattle.console.proofs.number.number.Goals as goal
use Rattle.console.proofs.number.number.Goals.{else-bytes-gt1-via-then-bytes-gt1+else-bytes-lt49, else-bytes-gt1-via-else-bytes-gt1}

pub returns-then-bytes-lt49 : goal.returns-then-bytes-lt49
returns-then-bytes-lt49 c =
    let first = ap (λ w. get_or w 0 0) c.as_bytes-bytes.ensures.value in
    long_and_low_is_no_decimal c.args.word.now (omega arith) (omega arith)

pub returns : goal.returns
returns c =
    let word = c.args.word.now in
    let first = ap (λ w. get_or w 0 0) c.as_bytes-bytes.ensures.value in
    let plain : (length word ≤ 1) ⊎ (49 ≤ get_or word 0 0) =
    elim c.else-bytes-gt1.branch [
      | else-bytes-gt1-via-then-bytes-gt1+else-bytes-lt49 w ↦ inr (omega arith)
      | else-bytes-gt1-via-else-bytes-gt1 w ↦ inl (omega arith)
    ] in
    subst (λ r. MatchOption r ((n : ℕ) → n < 2 ^ 32 → word ≡ decimal n → ⊥) (λ n. word ≡ decimal n)) (sym c.ok.ensures.value)
    (parse_gives_decimal word c.parse.result plain c.parse.ensures.value.0)
