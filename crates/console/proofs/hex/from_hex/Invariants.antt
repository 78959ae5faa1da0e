use Rattle.std.proofs.Common.{◌*◌, drop, vec_items}
use Rattle.console.specs.Hex.{AreBytes}
use Rattle.console.proofs.Digits.{SoFar}
use Rattle.console.proofs.hex.from_hex.Given as goal

abbrev pub invariant-loop-high : goal.invariant-loop-high
invariant-loop-high l = record { bytes : AreBytes (vec_items l.bytes); so_far : SoFar l.digits (vec_items l.bytes) (drop (2 * l.high-index) l.digits) }
