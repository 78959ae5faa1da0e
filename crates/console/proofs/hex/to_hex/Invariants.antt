use Rattle.std.proofs.Common.{◌≡◌, take, string_bytes}
use Rattle.console.specs.Hex.{hex_of}
use Rattle.console.proofs.hex.to_hex.Given as goal

abbrev pub invariant-loop-b : goal.invariant-loop-b
invariant-loop-b l = string_bytes l.digits ≡ hex_of (take l.b-index l.bytes)
