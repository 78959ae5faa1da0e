use Rattle.std.proofs.Common.{◌≡◌, ◌*◌, ◌/◌, ◌<◌, length, drop, vec_items, sym, ap, ◌∙◌, subst, arith, true-eqb, false-eqb}
use Rattle.console.proofs.Digits.{SoFar, one_more, byte_goes_on, none_left, one_left, no_byte}
use Rattle.console.proofs.Pairs.{same_pair, two_left, two_on, over}
use Rattle.console.proofs.hex.from_hex.Goals as goal

pub returns-in_default : goal.returns-in_default
returns-in_default c = λ others.
    let digits = c.args.digits.now in
    let i = c.loop-high.high-index in
    let same = c.as_bytes.ensures.value in
    let less : i < length c.as_bytes.result.now / 2 = omega (arith, c.as_chunks.ensures.front_len, c.loop-high-test.true) in
    let within : i < length digits / 2 = subst (λ s. i < length s / 2) same less in
    no_byte digits (vec_items c.loop-high.bytes) (drop (2 * i) digits) others c.loop-high.invariant.so_far (two_left digits i within)
    (λ b small e. c.in_default.ensures b small (sym (same_pair digits c.as_bytes.result.now same c.as_chunks.result.0.now c.as_chunks.ensures.front i less) ∙ e))

pub loop-high-preserved : goal.loop-high-preserved
loop-high-preserved c =
    let digits = c.args.digits.now in
    let i = c.loop-high.high-index in
    let same = c.as_bytes.ensures.value in
    let less : i < length c.as_bytes.result.now / 2 = omega (arith, c.as_chunks.ensures.front_len, c.loop-high-test.true) in
    let within : i < length digits / 2 = subst (λ s. i < length s / 2) same less in
    let on = byte_goes_on digits (vec_items c.loop-high.bytes) (drop (2 * i) digits) _ c.in-Some.b c.loop-high.invariant.so_far (two_left digits i within)
    (same_pair digits c.as_bytes.result.now same c.as_chunks.result.0.now c.as_chunks.ensures.front i less ∙ c.in-Some.ensures) c.in_ok-push.ensures.items in
    record {
      bytes = one_more (vec_items c.loop-high.bytes) _ c.in-Some.b c.loop-high.invariant.bytes (omega arith) c.in_ok-push.ensures.items;
      so_far = subst (SoFar digits (vec_items c.push.new.self)) (two_on digits i) on;
    }

pub returns-then-is_empty : goal.returns-then-is_empty
returns-then-is_empty c =
    let digits = c.args.digits.now in
    let i = c.loop-high.high-index in
    let none = true-eqb _ 0 c.if-is_empty.ensures in
    let all : i ≡ length digits / 2 = omega (arith, ap length c.as_bytes.ensures.value, c.as_chunks.ensures.front_len, c.loop-high-test.false) in
    (c.loop-high.invariant.bytes, none_left digits (vec_items c.loop-high.bytes) (drop (2 * i) digits) c.loop-high.invariant.so_far (omega (arith, over digits i all, none, ap length c.as_bytes.ensures.value, c.as_chunks.ensures.back_len)))

pub returns-else-is_empty : goal.returns-else-is_empty
returns-else-is_empty c = λ others.
    let digits = c.args.digits.now in
    let i = c.loop-high.high-index in
    let some = false-eqb _ 0 c.if-is_empty.ensures in
    let all : i ≡ length digits / 2 = omega (arith, ap length c.as_bytes.ensures.value, c.as_chunks.ensures.front_len, c.loop-high-test.false) in
    one_left digits (vec_items c.loop-high.bytes) (drop (2 * i) digits) others c.loop-high.invariant.so_far
    (omega (arith, over digits i all, some, ap length c.as_bytes.ensures.value, c.as_chunks.ensures.back_len)) (omega (arith, over digits i all))
