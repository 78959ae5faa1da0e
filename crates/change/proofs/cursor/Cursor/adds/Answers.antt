use Rattle.std.proofs.Common.{◌≡◌, ◌+◌, ◌-◌, true, map, refl, ap, ◌∙◌, arith, lt-ltb}
use Rattle.std.proofs.lemmas.List.{map_push}
use Rattle.std.proofs.lemmas.Result.{err_from_is_err_and}
use Rattle.std.proofs.ResultArms.{chosen}
use Rattle.change.specs.Few.{listed}
use Rattle.change.specs.View.{add_seen}
use Rattle.change.proofs.Several.{counted_goes, goes_from_none, goes_on, goes_wrong, goes_through}
use Rattle.change.proofs.cursor.Cursor.adds.Goals as goal

pub loop-init : goal.loop-init
loop-init c = (goes_from_none _ _ (omega arith) refl (ap (map add_seen) c.new-adds.ensures.items), c.new-adds.ensures.count, refl, c.in_ok-count.ensures.bound)

pub returns-in_err-add : goal.returns-in_err-add
returns-in_err-add c =
    let p = err_from_is_err_and c.from_residual-in_err-add.result c.from_residual-in_err-add.ensures.1 in
    let wrong = goes_wrong c.loop.invariant.0 (c.in_ok-count.count - (c.loop.counter + 1)) _ (omega arith) c.in_err-add.ensures.reads in
    record {
      reads = rw (p.1, p.2) (wrong ∙ counted_goes _ _ _ c.in_ok-count.ensures.reads);
      same = c.add.ensures.same ∙ c.loop.invariant.2 ∙ c.how_many.ensures.same;
    }

pub loop-preserved : goal.loop-preserved
loop-preserved c =
    let room : c.push.result ≡ true = c.push.ensures.test ∙ lt-ltb _ _ (omega arith) in
    let count = chosen _ _ _ _ c.push.ensures.count room in
    let items = chosen _ _ _ _ c.push.ensures.items room in (
      goes_on c.loop.invariant.0 (omega arith) c.in_ok-add.ensures.reads refl (ap (map add_seen) items ∙ map_push add_seen (listed c.loop.adds) c.in_ok-add.add),
      omega arith,
      c.add.ensures.same ∙ c.loop.invariant.2,
      c.loop.invariant.3,
    )

pub returns : goal.returns
returns c = record {
  reads = goes_through c.loop.invariant.0 (omega arith) ∙ counted_goes _ _ _ c.in_ok-count.ensures.reads;
  same = c.loop.invariant.2 ∙ c.how_many.ensures.same;
}
