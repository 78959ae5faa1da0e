use Rattle.std.proofs.Common.{◌≤◌, arith, rules}
use Rattle.store.proofs.Places.{start_inside, bytes_from}
use Rattle.store.proofs.Store.since.Goals as goal

pub slice_bounds-result-count : goal.slice_bounds-result-count
slice_bounds-result-count c = omega (arith, c.start-start.ensures, start_inside c.args.self.now c.args.place)

pub slice_bounds-result-start : goal.slice_bounds-result-start
slice_bounds-result-start c =
    let order : c.start-start.result ≤ c.args.self.now.used = omega (arith, c.start-start.ensures, start_inside c.args.self.now c.args.place) in
    search rules

pub returns : goal.returns
returns c = bytes_from c.args.self.now c.args.place c.start-start.result c.start-start.ensures
