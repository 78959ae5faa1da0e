use Rattle.std.proofs.Common.{◌≡◌, length, ◌∙◌, arith}
use Rattle.std.specs.Iterator.Adapters.{rev_source, enumerate_source}
use Rattle.std.specs.Slice.Iter.{iter_rest}
use Rattle.change.specs.Model.{line_of}
use Rattle.order.specs.Table.{bef, onto, placed}
use Rattle.drafts.specs.PutsOf.{puts_of}
use Rattle.shelf.specs.Sane.{changes}
use Rattle.drafts.proofs.Asking.{ask_of_last}
use Rattle.drafts.proofs.request.upcoming.Upcoming.stands_before.Goals as goal

pub returns-in-Break : goal.returns-in-Break
returns-in-Break c =
    let Q = placed (changes c.args.self.now.shelf.now) in
    let asked = c.loop-place.asked in
    let rest = iter_rest (enumerate_source (rev_source c.loop-place.place-iterator)) in
    let earlier = iter_rest (enumerate_source (rev_source c.next.new.self)) in
    let turn = c.in-Some.ensures.steps.1 in
    let at : c.in-Some.place ≡ length earlier = omega (arith, turn.1, c.loop-place.invariant.count) in
    c.in-Break.ensures (bef (onto Q (puts_of (line_of c.args.self.now.name.0 0) earlier)))
    ∙ ask_of_last Q c.args.self.now.name.0 asked.0.0 asked.1.0 rest earlier c.in-Some.add.now c.in-Some.place turn.0 at
    ∙ c.loop-place.invariant.same

pub loop-place-preserved : goal.loop-place-preserved
loop-place-preserved c =
    let Q = placed (changes c.args.self.now.shelf.now) in
    let asked = c.loop-place.asked in
    let rest = iter_rest (enumerate_source (rev_source c.loop-place.place-iterator)) in
    let earlier = iter_rest (enumerate_source (rev_source c.next.new.self)) in
    let turn = c.in-Some.ensures.steps.1 in
    let at : c.in-Some.place ≡ length earlier = omega (arith, turn.1, c.loop-place.invariant.count) in
    record {
      count = c.in-Some.ensures.steps.0 ∙ c.loop-place.invariant.count;
      same =
          c.in-Continue.ensures (bef (onto Q (puts_of (line_of c.args.self.now.name.0 0) earlier)))
          ∙ ask_of_last Q c.args.self.now.name.0 asked.0.0 asked.1.0 rest earlier c.in-Some.add.now c.in-Some.place turn.0 at
          ∙ c.loop-place.invariant.same;
    }
