use Rattle.std.proofs.Common.{refl, arith}
use Rattle.std.proofs.lemmas.Option.{slice_get_read}
use Rattle.waiting.specs.declared.Waiting.{Waiting}
use Rattle.waiting.specs.Waiting.{items_of}
use Rattle.waiting.proofs.Items.{bytes_at, none_past, one_waits_no_more, whole_without_one}
use Rattle.waiting.proofs.Waiting.remove.Goals as goal

pub returns-then-place-len : goal.returns-then-place-len
returns-then-place-len c = record { whole = c.requires; bytes = none_past c.args.self.now c.args.place (omega (arith, c.args.self.now.items.ok.0)); waits = refl }

pub returns : goal.returns
returns c =
    let w = c.args.self.now in
    let t : Waiting = record { items = c.remove-bytes.new.self } in
    let item = c.remove-bytes.result in
    let gone = c.remove-bytes.ensures.items in
    record {
      whole = whole_without_one w t c.args.place gone c.requires;
      bytes = bytes_at w c.requires c.args.place item (slice_get_read (items_of w) _ c.args.place item w.items.ok.0 (omega arith) c.remove-bytes.ensures.value);
      waits = one_waits_no_more w t c.args.place gone;
    }
