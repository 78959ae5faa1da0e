use Rattle.std.proofs.Common.{arith}
use lib.ListN.{length-map}
use Rattle.waiting.specs.Waiting.{change_in, items_of, bytes_of}
use Rattle.waiting.proofs.Waiting.len.Goals as goal

pub returns : goal.returns
returns c = omega (arith, c.args.self.now.items.ok.0, length-map (items_of c.args.self.now) (λ i. change_in (bytes_of i)))
