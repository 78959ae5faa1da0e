use Rattle.std.proofs.Common.{◌++◌, codes, sym, subst, arith}
use Rattle.console.proofs.Words.{cut_at_space, no_cut}
use Rattle.rehearse.specs.Lines.{Read}
use Rattle.rehearse.proofs.Moves.{pass_has_space, pass_has_first_plant, pass_has_second_plant, pass_is_said}
use Rattle.rehearse.proofs.script.read_pass.Goals as goal

pub returns-in_err-first : goal.returns-in_err-first
returns-in_err-first c =
    let rest = c.args.rest.now in
    subst (Read (codes "pass " ++ rest)) (sym c.from_residual.ensures) (pass_has_space rest (no_cut rest c.in_err-first.ensures.cases))

pub returns-in_err-from : goal.returns-in_err-from
returns-in_err-from c =
    let rest = c.args.rest.now in
    let first = c.in_ok-first.first in
    let second = c.in_ok-first.second in
    let cut = cut_at_space rest (first, second) c.in_ok-first.ensures.cases in
    subst (Read (codes "pass " ++ rest)) (sym c.from_residual-in_err-from.ensures) (pass_has_first_plant rest first.now second.now cut.0 cut.1 c.in_err-from.ensures)

pub returns-in_err-to : goal.returns-in_err-to
returns-in_err-to c =
    let rest = c.args.rest.now in
    let first = c.in_ok-first.first in
    let second = c.in_ok-first.second in
    let cut = cut_at_space rest (first, second) c.in_ok-first.ensures.cases in
    subst (Read (codes "pass " ++ rest)) (sym c.from_residual-in_err-to.ensures) (pass_has_second_plant rest first.now second.now cut.0 cut.1 c.in_err-to.ensures)

pub returns : goal.returns
returns c =
    let rest = c.args.rest.now in
    let first = c.in_ok-first.first in
    let second = c.in_ok-first.second in
    let cut = cut_at_space rest (first, second) c.in_ok-first.ensures.cases in
    pass_is_said rest first.now second.now cut.0 cut.1 c.in_ok-from.from.number c.in_ok-to.to.number (omega arith) (omega arith) c.in_ok-from.ensures c.in_ok-to.ensures
