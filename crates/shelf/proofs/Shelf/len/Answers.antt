use Rattle.std.proofs.Common.{sym, ◌∙◌}
use Rattle.std.proofs.lemmas.List.{length-reverse}
use Rattle.store.specs.Kept.{kept}
use Rattle.shelf.proofs.Shelf.len.Goals as goal

pub returns : goal.returns
returns c = c.len.ensures ∙ sym (length-reverse (kept c.args.self.now.store))
