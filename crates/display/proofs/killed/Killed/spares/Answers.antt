use Rattle.std.proofs.Common.{◌∙◌}
use Rattle.std.proofs.lemmas.List.Sorted.{searched}
use Rattle.display.proofs.Spared.{spared_searched}
use Rattle.display.proofs.killed.Killed.spares.Goals as goal

pub returns : goal.returns
returns c =
    let ks = c.args.self.now.lines.now in
    c.is_err.ensures.value
    ∙ spared_searched ks c.args.line c.binary_search.result (searched ks c.args.line c.binary_search.result c.binary_search.ensures.position (λ i j. c.args.self.now.rising i j 0))
