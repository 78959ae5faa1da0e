-- That the table of a good list of puts decides their order.
-- Assumes nothing.
use Rattle.std.proofs.Common.{ℕ, List, [], ◌∷◌, Decides, arith}
use Rattle.std.proofs.lemmas.Bool.Decides.{nat_tests}
use Rattle.order.specs.Order.{Put}
use Rattle.order.specs.Table.{bef}
use Rattle.order.specs.Good.{Stands, Good}
use Rattle.order.specs.Theorems.{StepIsOrder}
use Rattle.order.proofs.Precedes.{Sub}
use Rattle.order.proofs.Grown.{grown_more}
use Rattle.order.proofs.Steps.{True, grown_step, bef_stands}
use Rattle.order.proofs.Stands.{nothing_put, laws, takes, stands_grown}

pub stands_bef : (Q : List Put) → Good Q → Sub (Stands Q) (True (bef Q))
stands_bef [] g u v h = let e = nothing_put u v h in grind (arith, nat_tests)
stands_bef (p ∷ Q) (n, g) u v h =
    let l = laws Q g in
    grown_step (bef Q) p (λ s t k. (takes p Q n l).absent s t (bef_stands Q s t k)) n.between u v (grown_more (stands_bef Q g) p u v (stands_grown p Q n l u v h))

pub bef_decides : (Q : List Put) → Good Q → (u v : ℕ) → Decides (bef Q u v) (Stands Q u v)
bef_decides Q g u v = (bef_stands Q u v, stands_bef Q g u v)

pub step_is_order : StepIsOrder
step_is_order Q g = (bef_decides Q g, λ p n. ((n, g), bef_decides (p ∷ Q) (n, g)))
