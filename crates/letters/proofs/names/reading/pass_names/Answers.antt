use Rattle.std.proofs.Common.{◌+◌, ◌-◌, [], ◌∷◌, ◌++◌, refl, ap, ◌∙◌, arith}
use Rattle.std.proofs.lemmas.Result.{err_from_is_err_and}
use Rattle.change.proofs.Several.{counted_goes, goes_from_none, goes_on, goes_wrong, goes_through}
use Rattle.letters.specs.NamesView.{passed}
use Rattle.letters.proofs.names.reading.pass_names.Goals as goal

pub loop-init : goal.loop-init
loop-init c = (([], goes_from_none _ _ (omega arith) c.from-low.ensures refl), refl)

pub returns-in_err-name : goal.returns-in_err-name
returns-in_err-name c =
    let p = err_from_is_err_and c.from_residual-in_err-name.result c.from_residual-in_err-name.ensures.1 in
    let wrong = goes_wrong c.loop.invariant.0.1 (c.in_ok-count.count - (c.loop.counter + 1)) _ (omega arith) c.in_err-name.ensures.reads in
    record {
      reads = rw (p.1, p.2) (ap passed (wrong ∙ counted_goes _ _ _ c.in_ok-count.ensures.reads));
      same = c.number_within.ensures.same ∙ c.loop.invariant.1 ∙ c.read_head.ensures.same;
    }

pub loop-preserved : goal.loop-preserved
loop-preserved c = (
  (c.loop.invariant.0.0 ++ c.in_ok-name.name ∷ [], goes_on c.loop.invariant.0.1 (omega arith) c.in_ok-name.ensures.reads (omega arith) refl),
  c.number_within.ensures.same ∙ c.loop.invariant.1,
)

pub returns : goal.returns
returns c = record {
  reads = ap passed (goes_through c.loop.invariant.0.1 (omega arith) ∙ counted_goes _ _ _ c.in_ok-count.ensures.reads);
  same = c.loop.invariant.1 ∙ c.read_head.ensures.same;
}
