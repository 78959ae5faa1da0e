use Rattle.std.proofs.Common.{◌∙◌}
use Rattle.store.proofs.Places.{length_kept}
use Rattle.store.proofs.Store.len.Goals as goal

pub returns : goal.returns
returns c = c.len.ensures ∙ length_kept c.args.self.now
