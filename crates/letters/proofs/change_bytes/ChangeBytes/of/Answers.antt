use Rattle.std.proofs.Common.{sym, ap, ◌∙◌}
use Rattle.change.specs.Bytes.{change_bytes}
use Rattle.change.specs.Viewed.{viewed}
use Rattle.change.specs.WellFormed.{well_formed}
use Rattle.letters.proofs.ChangeRead.{its_change}
use Rattle.letters.proofs.change_bytes.ChangeBytes.of.Goals as goal

pub invariant_of-result : goal.invariant_of-result
invariant_of-result c =
    let v = c.args.view.now in
    let same = its_change c.bytes.result.now (viewed v) v.well c.bytes.ensures in
    record { well = ap well_formed same ∙ v.well; own = c.bytes.ensures ∙ ap change_bytes (sym same) }

pub returns : goal.returns
returns c = its_change c.bytes.result.now (viewed c.args.view.now) c.args.view.now.well c.bytes.ensures
