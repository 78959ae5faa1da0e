use Rattle.std.proofs.Common.{◌<◌, ◌∙◌, arith}
use Rattle.std.proofs.lemmas.Bool.Decides.{nat_tests}
use Rattle.std.proofs.lemmas.Bool.{lt-leb}
use Rattle.order.specs.Table.{placed}
use Rattle.shelf.specs.Sane.{changes}
use Rattle.shelf.proofs.Answering.{line_here, none_adds_the_start_or_end}
use Rattle.shelf.proofs.Sure.{sane}
use Rattle.shelf.proofs.Shelf.has_line.Goals as goal

pub returns-then-is_added : goal.returns-then-is_added
returns-then-is_added c =
    let L = changes c.args.self.now in
    line_here L (sane c.args.self.now).listed c.args.line.0 (grind (arith, nat_tests, c.is_added.ensures, c.if-is_added.true)) c.has.result (c.has.ensures (placed L) (sane c.args.self.now).keeps)

pub returns-else-is_added : goal.returns-else-is_added
returns-else-is_added c =
    let low : c.args.line.0 < 2 = grind (arith, nat_tests, c.is_added.ensures, c.if-is_added.false) in
    c.is_added.ensures ∙ lt-leb 2 c.args.line.0 low ∙ none_adds_the_start_or_end (changes c.args.self.now) (sane c.args.self.now).listed c.args.line.0 low
