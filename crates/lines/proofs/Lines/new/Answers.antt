-- All slots are free but those of the start and the end.
use Rattle.std.proofs.Common.{rules}
use Rattle.table.specs.Held.{held}
use Rattle.lines.proofs.Empty.{only_ends_written, only_ends_agree}
use Rattle.lines.proofs.Lines.new.Goals as goal

pub returns : goal.returns
returns c =
    let only = only_ends_written c.in_ok-numbers.numbers.items c.args.slots (search rules) (c.in_ok-numbers.ensures.items_if_clones_equal (λ y e. e)) in
    let t = c.in-Some.ensures in
    record {
      answer = search rules;
      empty = (
        only_ends_agree (held c.in-Some.table) _ _ only t.empty,
        only.size,
      );
    }
