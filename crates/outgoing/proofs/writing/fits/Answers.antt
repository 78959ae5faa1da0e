use Rattle.std.proofs.Common.{◌+◌, length, sym, ap, arith}
use Rattle.std.proofs.lemmas.List.{take_all}
use Rattle.std.proofs.lemmas.Bool.{le-leb, lt-leb}
use Rattle.order.proofs.Members.{in_get_or}
use Rattle.store.specs.Kept.{kept}
use Rattle.outgoing.proofs.Sizes.{bytes_at, size_more, part_is_less}
use Rattle.outgoing.proofs.writing.fits.Goals as goal

pub loop-place-init : goal.loop-place-init
loop-place-init c = omega arith

pub bytes_at-len-requires : goal.bytes_at-len-requires
bytes_at-len-requires c = c.requires _ (in_get_or c.args.places.now c.loop-place.place-index 0 (omega arith))

pub returns-then-len-left : goal.returns-then-len-left
returns-then-len-left c =
    let K = kept c.args.store.now in
    let ps = c.args.places.now in
    let i = c.loop-place.place-index in
    let here = ap length c.bytes_at-len.ensures in
    let more = size_more K ps i (omega arith) in
    let part = part_is_less K ps (i + 1) in
    sym (lt-leb (length (bytes_at K ps)) c.args.room (omega (arith, c.loop-place.invariant)))

pub loop-place-preserved : goal.loop-place-preserved
loop-place-preserved c =
    let K = kept c.args.store.now in
    let ps = c.args.places.now in
    let i = c.loop-place.place-index in
    let here = ap length c.bytes_at-len.ensures in
    let more = size_more K ps i (omega arith) in
    omega (arith, c.loop-place.invariant)

pub returns : goal.returns
returns c =
    let K = kept c.args.store.now in
    let ps = c.args.places.now in
    let i = c.loop-place.place-index in
    let all = ap (λ l. length (bytes_at K l)) (take_all i ps (omega arith)) in
    sym (le-leb (length (bytes_at K ps)) c.args.room (omega (arith, c.loop-place.invariant)))
