use Rattle.std.proofs.Common.{sym, ap, ◌∙◌}
use mathlib.Core.List.{reverse-reverse}
use Rattle.std.specs.List.{slice_get}
use Rattle.store.specs.Kept.{kept}
use Rattle.shelf.proofs.Shelf.get.Goals as goal

pub returns : goal.returns
returns c = c.get.ensures ∙ ap (λ cs. slice_get cs c.args.place) (sym (reverse-reverse (kept c.args.self.now.store)))
