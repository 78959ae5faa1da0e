use Rattle.order.specs.Table.{placed}
use Rattle.order.proofs.Placed.{placed_good}
use Rattle.shelf.specs.Sane.{changes}
use Rattle.shelf.proofs.Sure.{sane}
use Rattle.shelf.proofs.Shelf.stands_before.Goals as goal

pub returns : goal.returns
returns c = let L = changes c.args.self.now in c.before-2.ensures (placed L) (sane c.args.self.now).keeps (placed_good L (sane c.args.self.now).listed)
