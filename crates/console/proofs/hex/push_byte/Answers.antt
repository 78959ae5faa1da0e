use Rattle.std.proofs.Common.{◌/◌, ◌%◌, [], ◌∷◌, string_bytes, arith}
use Rattle.std.specs.Char.{digit_char}
use Rattle.change.proofs.Appended.{then_written}
use Rattle.console.proofs.Digits.{digit_pushed}
use Rattle.console.proofs.hex.push_byte.Goals as goal

pub returns : goal.returns
returns c =
    let b = c.args.b in
    let was = string_bytes c.args.digits.now in let one = string_bytes c.push.new.self in let both = string_bytes c.push-2.new.self in
    then_written was (digit_char (b / 16) ∷ []) (digit_char (b % 16) ∷ []) {t = one} {u = both}
    (digit_pushed was one c.digit_of.result (b / 16) (omega arith) c.digit_of.ensures c.in_ok-push.ensures.ascii c.in_ok-push.ensures.bytes)
    (digit_pushed one both c.digit_of-2.result (b % 16) (omega arith) c.digit_of-2.ensures c.in_ok-push-2.ensures.ascii c.in_ok-push-2.ensures.bytes)
