use Rattle.std.proofs.Common.{◌+◌, ◌≤◌, arith, rules}
use Rattle.store.proofs.Places.{start_on, start_inside, bytes_at, no_bytes_past}
use Rattle.store.proofs.Store.bytes.Goals as goal

pub returns-then-place-len : goal.returns-then-place-len
returns-then-place-len c = no_bytes_past c.args.self.now c.args.place (omega arith)

pub slice_bounds-result-count : goal.slice_bounds-result-count
slice_bounds-result-count c = omega (arith, start_on c.args.self.now c.args.place (omega arith))

pub slice_bounds-result-start : goal.slice_bounds-result-start
slice_bounds-result-start c =
    let on = start_on c.args.self.now c.args.place (omega arith) in
    let order : c.start-start.result ≤ c.start-end.result = omega arith in
    search rules

pub slice_bounds-result-end : goal.slice_bounds-result-end
slice_bounds-result-end c = let inside = start_inside c.args.self.now (c.args.place + 1) in search rules

pub returns : goal.returns
returns c = bytes_at c.args.self.now c.args.place c.start-start.result c.start-end.result (omega arith) c.start-start.ensures c.start-end.ensures
