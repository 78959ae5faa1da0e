use Rattle.std.proofs.Common.{arith}
use Rattle.store.proofs.Places.{start_at, start_past}
use Rattle.store.proofs.Store.start.Goals as goal

pub returns-then-place-len : goal.returns-then-place-len
returns-then-place-len c = start_at c.args.self.now c.args.place c.index.result.now (omega arith) c.index.ensures

pub returns-else-place-len : goal.returns-else-place-len
returns-else-place-len c = start_past c.args.self.now c.args.place (omega arith)
