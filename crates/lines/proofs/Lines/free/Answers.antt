-- The count is that of the numbers, and each line has a slot.
use Rattle.std.proofs.Common.{◌≡◌, ◌+◌, length, ap, ◌∙◌, rules}
use Rattle.table.specs.Held.{held}
use Rattle.lines.specs.Numbers.{free_in}
use Rattle.lines.specs.Lines.{numbers_of}
use Rattle.lines.proofs.Filled.{all_but_the_lines_are_free}
use Rattle.lines.proofs.Lines.free.Goals as goal

pub returns : goal.returns
returns c =
    let l = c.args.self.now in
    let count : c.count_free.result ≡ free_in (numbers_of l) = search rules in
    record {
      count = count;
      rest = λ Q keeps good. ap (λ n. n + (2 + length Q)) count ∙ all_but_the_lines_are_free (held l.table) (numbers_of l) Q keeps good;
    }
