-- An iterator over the blocks of a walk, while it goes.
-- Stepping s t: t is s, some blocks further.
use Rattle.std.proofs.Common.{◌≡◌, Option, ◌∙◌, subst, Bor, List}
use Rattle.table.specs.declared.Table.{Table}
use Rattle.table.specs.Held.{held}
use Rattle.sheet.specs.declared.block.Block.{Block}
use Rattle.sheet.specs.declared.block.Blocks.{Blocks}
use Rattle.sheet.specs.declared.line.LineAt.{LineAt}
use Rattle.sheet.specs.Blocks.{NextBlock}

pub record Stepping (s t : Blocks) : Type 0 where
  pub table : t.table ≡ s.table
  pub walked : t.walked ≡ s.walked

module _ (s t : Blocks) (stepping : Stepping s t) where
  pub goes_on : (u : Blocks) → u.table ≡ t.table → u.walked ≡ t.walked → Stepping s u
  goes_on u e f = record { table = e ∙ stepping.table; walked = f ∙ stepping.walked }

  -- what comes next, by the table and the walk that it began with
  pub as_begun : (r : Option Block) (u : Blocks) → NextBlock (held t.table.now) t.walked.now t.start r u.start → NextBlock (held s.table.now) s.walked.now t.start r u.start
  as_begun r u next =
      subst (λ (w : Bor (List LineAt)). NextBlock (held s.table.now) w.now t.start r u.start) stepping.walked
      (subst (λ (b : Bor Table). NextBlock (held b.now) t.walked.now t.start r u.start) stepping.table next)
