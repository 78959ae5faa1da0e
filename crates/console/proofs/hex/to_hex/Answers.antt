use Rattle.std.proofs.Common.{[], ap, ◌∙◌, arith}
use Rattle.std.proofs.lemmas.List.{take_all}
use Rattle.change.proofs.Appended.{one_more_written}
use Rattle.console.specs.Hex.{byte_digits, hex_of}
use Rattle.console.proofs.hex.to_hex.Goals as goal

pub loop-b-preserved : goal.loop-b-preserved
loop-b-preserved c = one_more_written byte_digits [] c.args.bytes.now c.loop-b.b-index _ c.loop-b.invariant 0 _ (omega arith) c.in_ok-push_byte.ensures

pub returns : goal.returns
returns c = c.loop-b.invariant ∙ ap hex_of (take_all c.loop-b.b-index c.args.bytes.now (omega arith))
