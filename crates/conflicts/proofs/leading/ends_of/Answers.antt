use Rattle.std.proofs.Common.{ℕ, Bool, List, Some, None, Option, get_or, subst, inr}
use Rattle.table.specs.Held.{held}
use Rattle.sheet.specs.declared.block.Block.{Block}
use Rattle.sheet.specs.declared.line.LineAt.{LineAt}
use Rattle.sheet.specs.Lines.{no_line}
use Rattle.conflicts.specs.declared.leading.Ends.{Ends}
use Rattle.conflicts.specs.Block.{PartOf, BlockOf}
use Rattle.conflicts.specs.Ends.{EndsFrom, EndsAt, EndsOf}
use Rattle.conflicts.proofs.Cut.{first_line}
use Rattle.conflicts.proofs.leading.ends_of.Goals as goal

-- the ends of a part of the walk are those of the block there
ends_of_block :
    (R : ℕ → ℕ → Bool) (ws ls : List LineAt) (order : List ℕ) (start end : ℕ) (b : Block) (part : PartOf ws start end b) (block : BlockOf R ws order start end) (o : Option Ends) →
    EndsFrom R b.above.now (get_or b.lines.now 0 no_line) ls o → EndsOf R ws ls order o
ends_of_block R ws ls order start end b part block o ends = go o at
  where
    at : EndsAt R ws start ls o
    at =
        subst (λ above. EndsFrom R above (get_or ws start no_line) ls o) part.above
        (subst (λ first. EndsFrom R b.above.now first ls o) (first_line R ws order start end b part block.block no_line) ends)

    go : (o : Option Ends) → EndsAt R ws start ls o → EndsOf R ws ls order o
    go None e = inr (start, end, block, e)
    go (Some _) e = (start, end, block, e)

pub returns : goal.returns
returns c =
    let (start, end, part, block) = c.in_ok-block.ensures in
    ends_of_block (held c.args.table.now) c.args.walked.now c.args.lines.now c.args.order.now start end c.in_ok-block.block part block c.ends_from.result c.ends_from.ensures
