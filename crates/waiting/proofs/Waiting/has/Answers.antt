use Rattle.std.proofs.Common.{eqb, ap, ◌∙◌}
use Rattle.std.specs.List.{list_any}
use Rattle.waiting.proofs.Items.{name_waits}
use Rattle.waiting.proofs.Waiting.has.Goals as goal

pub returns : goal.returns
returns c =
    let n = c.args.name.0 in
    c.has.ensures
    ∙ ap (list_any (λ i. eqb i.name.0 n)) c.deref.ensures.value ∙ name_waits c.args.self.now c.requires n
