use Rattle.std.proofs.Common.{◌≡◌, ◌+◌, ◌-◌, true, refl, ◌∙◌, arith, lt-ltb}
use Rattle.std.proofs.lemmas.Result.{err_from_is_err_and}
use Rattle.std.proofs.ResultArms.{chosen}
use Rattle.change.proofs.Several.{counted_goes, goes_from_none, goes_on, goes_wrong, goes_through}
use Rattle.change.proofs.cursor.Cursor.rising.Goals as goal

pub loop-init : goal.loop-init
loop-init g c = (goes_from_none _ _ (omega arith) c.from-low.ensures c.new-numbers.ensures.items, c.new-numbers.ensures.count, refl, c.in_ok-count.ensures.bound)

pub returns-in_err-n : goal.returns-in_err-n
returns-in_err-n g c =
    let p = err_from_is_err_and c.from_residual-in_err-n.result c.from_residual-in_err-n.ensures.1 in
    let wrong = goes_wrong c.loop.invariant.0 (c.in_ok-count.count - (c.loop.counter + 1)) _ (omega arith) c.in_err-n.ensures.reads in
    record {
      reads = rw (p.1, p.2) (wrong ∙ counted_goes _ _ _ c.in_ok-count.ensures.reads);
      same = c.number_within.ensures.same ∙ c.loop.invariant.2 ∙ c.how_many.ensures.same;
    }

pub loop-preserved : goal.loop-preserved
loop-preserved g c =
    let room : c.push.result ≡ true = c.push.ensures.test ∙ lt-ltb _ _ (omega arith) in
    let one_more = chosen _ _ _ _ c.push.ensures.count room in (
      goes_on c.loop.invariant.0 (omega arith) c.in_ok-n.ensures.reads (omega arith) (chosen _ _ _ _ c.push.ensures.items room),
      omega arith,
      c.number_within.ensures.same ∙ c.loop.invariant.2,
      c.loop.invariant.3,
    )

pub returns : goal.returns
returns g c = record {
  reads = goes_through c.loop.invariant.0 (omega arith) ∙ counted_goes _ _ _ c.in_ok-count.ensures.reads;
  same = c.loop.invariant.2 ∙ c.how_many.ensures.same;
}
