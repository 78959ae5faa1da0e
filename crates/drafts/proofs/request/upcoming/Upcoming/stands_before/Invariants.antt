use Rattle.std.proofs.Common.{◌≡◌}
use Rattle.std.specs.Iterator.Adapters.{rev_source, enumerate_source, enumerate_count}
use Rattle.std.specs.Slice.Iter.{iter_rest}
use Rattle.change.specs.Model.{line_of}
use Rattle.order.specs.Table.{bef, onto, placed}
use Rattle.drafts.specs.PutsOf.{puts_of}
use Rattle.shelf.specs.Sane.{changes}
use Rattle.drafts.proofs.request.upcoming.Upcoming.stands_before.Given as goal

-- the puts that are left answer the same
abbrev pub invariant-loop-place : goal.invariant-loop-place
invariant-loop-place l =
    let Q = placed (changes l.self.shelf.now) in
    let n = line_of l.self.name.0 0 in
    let left = rev_source l.place-iterator in record {
      count : enumerate_count left ≡ 0;
      same : bef (onto Q (puts_of n (iter_rest (enumerate_source left)))) l.asked.0.0 l.asked.1.0 ≡ bef (onto Q (puts_of n l.adds)) l.fn.u.0 l.fn.v.0;
    }
