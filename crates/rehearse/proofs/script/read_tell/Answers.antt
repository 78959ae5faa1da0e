use Rattle.std.proofs.Common.{◌++◌, codes, sym, ap, subst, arith}
use Rattle.rehearse.specs.Lines.{Read}
use Rattle.rehearse.proofs.Moves.{tell_has_plant, tell_has_command}
use Rattle.rehearse.proofs.script.read_tell.Goals as goal

pub returns-in_err-of : goal.returns-in_err-of
returns-in_err-of c =
    let word = c.args.word.now in
    let rest = c.args.rest.now in
    subst (Read (word ++ (codes " " ++ rest))) (sym c.from_residual.ensures) (tell_has_plant word rest c.requires.word c.requires.other c.in_err-of.ensures)

pub returns-in_err-command : goal.returns-in_err-command
returns-in_err-command c =
    let word = c.args.word.now in
    let rest = c.args.rest.now in
    subst (Read (word ++ (codes " " ++ rest))) (sym c.from_residual-in_err-command.ensures) (tell_has_command word rest c.requires.word c.requires.other c.in_err-command.ensures)

pub returns : goal.returns
returns c =
    let rest = c.args.rest.now in
    (omega arith, (rest, ap (λ w. w ++ (codes " " ++ rest)) c.in_ok-of.ensures, c.in_ok-command.ensures))
