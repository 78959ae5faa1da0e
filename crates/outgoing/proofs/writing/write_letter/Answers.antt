use Rattle.std.proofs.Common.{◌+◌, ◌-◌, ◌≤◌, ◌++◌, length, take, Some, sym, ap, ◌∙◌, subst, arith}
use Rattle.std.proofs.lemmas.List.{take_all, length-map}
use Rattle.std.proofs.lemmas.Bool.{leb-true}
use Rattle.order.proofs.Members.{in_get_or}
use Rattle.letters.specs.Letter.{letter_kind}
use Rattle.letters.specs.Message.{head_bytes}
use Rattle.letters.specs.Written.{Written}
use Rattle.store.specs.Kept.{kept}
use Rattle.outgoing.specs.Places.{change_at}
use Rattle.outgoing.proofs.Sizes.{bytes_at, bytes_more, size_more, part_is_less, written_none, written_more, begun_written}
use Rattle.outgoing.proofs.writing.write_letter.Goals as goal

pub loop-place-init : goal.loop-place-init
loop-place-init c =
    let begun = begun_written (length c.args.places.now) c.requires.few c.args.out.now c.begin.new.out (Some c.in_ok-end.end) c.in_ok-end.ensures in
    written_none c.in_ok-end.end c.begin.new.out (omega (arith, begun.1, c.begin.auto.out))

pub bytes_at-requires : goal.bytes_at-requires
bytes_at-requires c = c.requires.places _ (in_get_or c.args.places.now c.loop-place.place-index 0 (omega arith))

pub returns-in_err-end-2 : goal.returns-in_err-end-2
returns-in_err-end-2 c =
    let K = kept c.args.store.now in
    let ps = c.args.places.now in
    let i = c.loop-place.place-index in
    let begun = begun_written (length ps) c.requires.few c.args.out.now c.begin.new.out (Some c.in_ok-end.end) c.in_ok-end.ensures in
    let all : length (bytes_at K ps) ≤ length c.args.out.now - 3 = leb-true _ _ (sym c.fits.ensures ∙ c.if-not-fits.false) in
    let room : 3 ≤ length c.args.out.now = c.if-room-lt-HEAD_LEN.false in
    let here = ap length c.bytes_at.ensures in
    let short = c.in_err-end-2.ensures.0 in
    absurd (omega (arith, begun.0, c.begin.auto.out, c.loop-place.auto.out, c.loop-place.invariant.0, size_more K ps i (omega arith), part_is_less K ps (i + 1)))

pub loop-place-preserved : goal.loop-place-preserved
loop-place-preserved c =
    let K = kept c.args.store.now in
    let ps = c.args.places.now in
    let i = c.loop-place.place-index in
    let grown = ap (λ l. bytes_at K (take i ps) ++ l) c.bytes_at.ensures ∙ sym (bytes_more K ps i (omega arith)) in
    subst (λ l. Written c.in_ok-end.end l c.begin.new.out c.put.new.out (Some c.in_ok-end-2.end)) grown
    (written_more _ _ _ (bytes_at K (take i ps)) c.bytes_at.result.now _ c.loop-place.out _ c.loop-place.invariant c.loop-place.auto.out c.in_ok-end-2.ensures)

pub returns : goal.returns
returns c =
    let K = kept c.args.store.now in
    let ps = c.args.places.now in
    let was = c.args.out.now in
    let mid = c.begin.new.out in
    let begun = begun_written (length ps) c.requires.few was mid (Some c.in_ok-end.end) c.in_ok-end.ensures in
    let body = subst (λ l. Written c.in_ok-end.end (bytes_at K l) mid c.loop-place.out (Some c.loop-place.end)) (take_all c.loop-place.place-index ps (omega arith)) c.loop-place.invariant in
    subst (λ n. Written 0 (head_bytes letter_kind n ++ bytes_at K ps) was c.loop-place.out (Some c.loop-place.end)) (sym (length-map ps (change_at K)))
    (written_more 0 c.in_ok-end.end c.loop-place.end (head_bytes letter_kind (length ps)) (bytes_at K ps) was mid c.loop-place.out begun c.begin.auto.out body)
