-- Each slot counts once at most, so the count fits as the slots do.
use Rattle.std.proofs.Common.{◌^◌, arith, rules, tests}
use Rattle.std.proofs.lemmas.Iterator.{YieldsList-from_slice}
use Rattle.std.proofs.lemmas.Iterator.Adapters.{fits_from_length, at_most_from_yields_List}
use Rattle.lines.proofs.numbers.count_free.Goals as goal

pub sum-requires-clause-fits : goal.sum-requires-clause-fits
sum-requires-clause-fits c =
    fits_from_length _ _ (2 ^ 63) _ (at_most_from_yields_List (YieldsList-from_slice c.args.numbers.now cc) (grind arith)) c.map.ensures.closure
    (omega arith)
    (λ x r q k. search (rules, tests))
