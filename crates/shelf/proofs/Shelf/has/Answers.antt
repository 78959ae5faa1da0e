use Rattle.std.proofs.Common.{◌∙◌}
use Rattle.store.specs.Kept.{kept}
use Rattle.shelf.proofs.Finding.{found_tells_has}
use Rattle.shelf.proofs.Shelf.has.Goals as goal

pub returns : goal.returns
returns c = c.is_some.ensures ∙ found_tells_has (kept c.args.self.now.store) c.args.name.0 c.find.result c.find.ensures
