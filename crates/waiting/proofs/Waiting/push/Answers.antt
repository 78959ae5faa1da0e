use Rattle.std.proofs.Common.{◌≡◌, refl}
use Rattle.change.specs.Bytes.{change_bytes}
use Rattle.change.specs.Viewed.{viewed}
use Rattle.waiting.specs.declared.item.Item.{Item}
use Rattle.waiting.specs.declared.Waiting.{Waiting}
use Rattle.waiting.specs.Waiting.{bytes_of}
use Rattle.waiting.proofs.Items.{one_more_waits, whole_with_one_more}
use Rattle.waiting.proofs.Waiting.push.Goals as goal

pub returns : goal.returns
returns c =
    let w = c.args.self.now in
    let v = c.args.view.now in
    let t : Waiting = record { items = c.push.new.self } in
    let item : Item = record { name = v.name; bytes = c.in_ok-to_bytes.field-0 } in
    let own : bytes_of item ≡ change_bytes (viewed v) = c.in_ok-to_bytes.ensures.bytes in
    let pushed = c.in_ok-push.ensures.items in
    record {
      whole = whole_with_one_more w t item (viewed v) v.well own pushed refl c.requires;
      waits = one_more_waits w t item (viewed v) v.well own pushed;
    }
