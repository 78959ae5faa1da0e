-- A turn copies the bit of one row, which no turn before it has written; past the last row the table holds nothing.
use Rattle.std.proofs.Common.{ℕ, ◌∙◌, arith}
use Rattle.std.proofs.lemmas.Bool.Decides.{nat_tests}
use Rattle.table.specs.Cells.{at}
use Rattle.table.specs.Held.{held}
use Rattle.table.proofs.Columns.{row_as_before, column_more, column_all}
use Rattle.table.proofs.Table.copy_column.Goals as goal

pub loop-i-preserved : goal.loop-i-preserved
loop-i-preserved c =
    let R = held c.args.self.now in
    let S = at c.loop-i.bits c.args.self.now.slots in
    let f = λ (u : ℕ). R u c.args.from in
    column_more R S (at c.put.new.bits c.args.self.now.slots) c.args.to f c.loop-i.i c.get-on.result c.loop-i.invariant
    (c.get-on.ensures ∙ row_as_before R S c.args.to f c.loop-i.i c.args.from c.loop-i.invariant)
    c.put.ensures

pub returns-clause-copied : goal.returns-clause-copied
returns-clause-copied c =
    let R = held c.args.self.now in
    column_all R (at c.loop-i.bits c.args.self.now.slots) c.args.to (λ u. R u c.args.from) c.loop-i.i c.loop-i.invariant
    (λ u v h. grind (arith, nat_tests, c.loop-i-test.false))
    (λ u h. grind (arith, nat_tests, c.loop-i-test.false))
