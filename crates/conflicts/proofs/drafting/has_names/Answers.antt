use Rattle.std.proofs.Common.{◌≡◌, ◌+◌, ◌*◌, leb, length, ap, ◌∙◌, arith}
use Rattle.settling.specs.Requests.{in_pieces}
use Rattle.settling.proofs.CutUp.{pieces_are_few}
use Rattle.conflicts.proofs.drafting.has_names.Goals as goal

pub returns : goal.returns
returns c =
    let pieces : c.div_ceil-pieces.result ≡ length (in_pieces c.args.order.now) = c.div_ceil-pieces.ensures ∙ omega (arith, (pieces_are_few c.args.order.now).2) in
    ap (λ n. leb (c.args.next.0 + n * 16) 67108879) pieces
