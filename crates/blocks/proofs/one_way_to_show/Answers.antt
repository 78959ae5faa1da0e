use Rattle.blocks.specs.Strict.{Says}
use Rattle.change.specs.Membership.{In}
use Rattle.blocks.proofs.Alike.{shows_alike}
use Rattle.blocks.proofs.OneWay.{one_way}
use Rattle.blocks.proofs.one_way_to_show.Goals as goal

pub returns : goal.returns
returns c before strict ls ks same bs cs s t =
    one_way (λ u. In u ls) (Says before) strict bs cs s (shows_alike (λ u. In u ks) (λ u. In u ls) (Says before) (Says before) (λ u. (same.1 u, same.0 u)) (λ u v. (λ r. r, λ r. r)) cs t)
