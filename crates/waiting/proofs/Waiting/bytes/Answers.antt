use Rattle.std.proofs.Common.{Some, ap, ◌∙◌, arith}
use Rattle.std.proofs.lemmas.Option.{slice_get_read}
use Rattle.waiting.specs.Waiting.{items_of}
use Rattle.waiting.proofs.Items.{bytes_at, none_past}
use Rattle.waiting.proofs.Waiting.bytes.Goals as goal

pub returns-then-place-len : goal.returns-then-place-len
returns-then-place-len c = none_past c.args.self.now c.args.place (omega (arith, c.args.self.now.items.ok.0))

pub returns : goal.returns
returns c =
    let w = c.args.self.now in
    let item = c.index.result.now in
    ap Some c.as_slice.ensures.value ∙ bytes_at w c.requires c.args.place item (slice_get_read (items_of w) _ c.args.place item w.items.ok.0 (omega arith) c.index.ensures)
