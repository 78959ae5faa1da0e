use Rattle.std.proofs.Common.{subst, rules}
use Rattle.table.specs.Held.{held}
use Rattle.conflicts.specs.Block.{WithLine}
use Rattle.conflicts.proofs.Cut.{searched}
use Rattle.conflicts.proofs.block.block_with.Goals as goal

pub returns : goal.returns
returns c =
    let (blocks, test, yields, fails, found) = c.find.ensures.ran in
    subst (λ t. WithLine (held t) c.args.walked.now c.args.line c.find.result) c.new.ensures.table
    (subst (λ ws. WithLine (held c.new.result.table.now) ws c.args.line c.find.result) c.new.ensures.walked
    (searched _ _ _ c.args.line c.new.result c.find.result c.find.new.self blocks test c.new.ensures.start yields fails found (λ b g e. search rules) (λ same b g e. search rules)))
