-- `& 1` leaves the lowest bit.
use Rattle.std.proofs.Common.{◌/◌, ◌^◌, eqb, ap}
use lib.Bits.{and_mask}
use Rattle.table.proofs.bit.has.Goals as goal

pub returns : goal.returns
returns c = ap (λ x. eqb x 1) (and_mask (c.args.byte / 2 ^ c.args.k) 1)
