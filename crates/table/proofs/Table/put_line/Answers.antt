-- The five writes, one after the other, come to one step.
use Rattle.std.proofs.Common.{rules}
use Rattle.table.specs.Held.{held}
use Rattle.table.proofs.Lines.{step_in_five}
use Rattle.table.proofs.Table.put_line.Goals as goal

pub returns : goal.returns
returns c = record {
  put =
      step_in_five (held c.args.self.now) (held c.copy_row.new.self) (held c.put.new.self) (held c.copy_column.new.self)
      (held c.put-2.new.self) (held c.put-3.new.self) _ _ _ c.requires.apart.0 c.requires.apart.1
      c.copy_row.ensures.copied c.put.ensures.put c.copy_column.ensures.copied c.put-2.ensures.put c.put-3.ensures.put;
  kept = search rules;
}
