use Rattle.std.proofs.Common.{ap, ◌∙◌}
use Rattle.std.specs.Option.{option_map}
use Rattle.change.specs.Viewed.{viewed}
use Rattle.change.proofs.WholeViews.{view_at}
use Rattle.waiting.specs.Waiting.{waits}
use Rattle.waiting.proofs.Waiting.get.Goals as goal

pub returns : goal.returns
returns c =
    ap (option_map viewed) c.ok.ensures.value
    ∙ view_at (waits c.args.self.now) c.requires.formed c.args.place c.in_ok-bytes.bytes.now c.read_whole.result c.in_ok-bytes.ensures c.read_whole.ensures
