use Rattle.order.proofs.Unions.{union_closed}
use Rattle.order.proofs.union_is_closed.Goals as goal

pub returns : goal.returns
returns c = union_closed
