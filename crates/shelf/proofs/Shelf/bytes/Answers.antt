use Rattle.std.proofs.Common.{sym, ap, ◌∙◌}
use mathlib.Core.List.{reverse-reverse}
use Rattle.std.specs.List.{slice_get}
use Rattle.std.specs.Option.{option_map}
use Rattle.change.specs.Bytes.{change_bytes}
use Rattle.store.specs.Kept.{kept}
use Rattle.shelf.proofs.Shelf.bytes.Goals as goal

pub returns : goal.returns
returns c = c.bytes.ensures ∙ ap (λ cs. option_map change_bytes (slice_get cs c.args.place)) (sym (reverse-reverse (kept c.args.self.now.store)))
