-- The line is one of those that slots are chosen for, or it is found where it was.
use Rattle.std.proofs.Common.{◌-◌, arith}
use Rattle.std.proofs.lemmas.Bool.Decides.{not_from_Decides}
use Rattle.lines.proofs.Choosing.{finds_chosen, finds_others}
use Rattle.lines.proofs.adding.slot_among.Goals as goal

pub returns-then-is_given : goal.returns-then-is_given
returns-then-is_given c =
    let given = c.is_given.ensures.0 c.if-is_given.true in
    finds_chosen c.requires.chosen c.args.first c.requires.above c.args.line (c.args.line - c.args.first) (omega arith) (omega arith)

pub returns : goal.returns
returns c =
    finds_others c.requires.chosen c.args.first c.requires.above c.args.line c.position.result
    (not_from_Decides c.is_given.result c.is_given.ensures c.if-is_given.false) c.position.ensures
