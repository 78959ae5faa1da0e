use Rattle.std.proofs.Common.{ap, ◌∙◌}
use Rattle.std.specs.Option.{option_map}
use Rattle.change.specs.Viewed.{viewed}
use Rattle.change.proofs.WholeViews.{view_at}
use Rattle.store.specs.Kept.{kept}
use Rattle.store.proofs.Laid.{whole_is_laid}
use Rattle.store.proofs.Store.get.Goals as goal

pub returns : goal.returns
returns c =
    ap (option_map viewed) c.ok.ensures.value
    ∙ view_at (kept c.args.self.now) (whole_is_laid c.args.self.now).formed c.args.place c.in_ok-bytes.bytes.now c.read_whole.result c.in_ok-bytes.ensures c.read_whole.ensures
